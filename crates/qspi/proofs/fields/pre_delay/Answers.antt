use Rattle.qspi.specs.model.Fields.{pre_delay}
use Rattle.qspi.proofs.fields.pre_delay.Goals as goal

pub returns : goal.returns
unfolding pre_delay
returns c = rw (c.choose.ensures, c.zero_means.ensures)
