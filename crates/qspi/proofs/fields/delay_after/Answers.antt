use Rattle.qspi.specs.model.Fields.{delay_after}
use Rattle.qspi.proofs.fields.delay_after.Goals as goal

pub returns : goal.returns
unfolding delay_after
returns c = rw (c.choose.ensures, c.zero_means.ensures)
