use Rattle.qsm.specs.model.Event.{read_value}
use Rattle.qsm.proofs.state.Module.read_value.Goals as goal

pub returns : goal.returns
unfolding read_value
returns c = rw (c.lane.ensures, c.fetched.ensures, c.halves.ensures, c.upper_lane.ensures)
