use Rattle.qsm.specs.model.Pins.{own_levels}
use Rattle.qsm.proofs.pins.Outputs.own_levels.Goals as goal

pub returns : goal.returns
unfolding own_levels
returns c = rw (c.pins_if-3.ensures, c.pins_if-2.ensures, c.pins_if.ensures)
