use Rattle.qsm.specs.model.Pins.{levels}
use Rattle.qsm.proofs.pins.Outputs.levels.Goals as goal

pub returns : goal.returns
unfolding levels
returns c = rw (c.mask.ensures, c.select.ensures, c.own_levels.ensures, c.owned.ensures)
