use Rattle.qspi.specs.model.Entry.{collected_after}
use Rattle.qspi.proofs.entry.collected_after.Goals as goal

pub returns : goal.returns
unfolding collected_after
returns c = rw (c.choose.ensures, c.pushed.ensures, c.changes.ensures)
