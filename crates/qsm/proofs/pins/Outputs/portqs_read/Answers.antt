use Rattle.qsm.specs.model.Pins.{portqs_read}
use Rattle.qsm.proofs.pins.Outputs.portqs_read.Goals as goal

pub returns : goal.returns
unfolding portqs_read
returns c = rw (c.select.ensures, c.levels.ensures, c.mask.ensures)
