use Rattle.qspi.specs.model.Entry.{mosi_after}
use Rattle.qspi.proofs.entry.mosi_after.Goals as goal

pub returns : goal.returns
unfolding mosi_after
returns c = rw (c.choose.ensures, c.bit_out.ensures, c.changes.ensures)
