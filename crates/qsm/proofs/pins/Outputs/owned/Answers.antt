use Rattle.qsm.specs.model.Pins.{owned}
use Rattle.qsm.proofs.pins.Outputs.owned.Goals as goal

pub returns : goal.returns
unfolding owned
returns c = rw (c.pins_if-2.ensures, c.pins_if.ensures)
