use Rattle.qsm.specs.model.Pins.{mask}
use Rattle.qsm.proofs.pins.Outputs.mask.Goals as goal

pub returns : goal.returns
unfolding mask
returns c = rw (c.pins_if-3.ensures, c.pins_if-2.ensures, c.without-port.ensures, c.pins_if.ensures)
