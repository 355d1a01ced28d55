use Rattle.qsm.specs.model.Lanes.{in_map}
use Rattle.qsm.proofs.lanes.in_map.Goals as goal

pub returns : goal.returns
unfolding in_map
returns c = rw (c.mapped-2.ensures, c.decode-2.ensures, c.mapped.ensures, c.decode.ensures)
