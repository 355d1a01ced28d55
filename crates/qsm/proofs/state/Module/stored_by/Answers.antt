use Rattle.qsm.specs.model.Decision.{stored_by}
use Rattle.qsm.proofs.state.Module.stored_by.Goals as goal

pub returns : goal.returns
unfolding stored_by
returns c = rw (c.stored.ensures, c.lower_lane.ensures, c.upper_lane.ensures, c.lined.ensures, c.halves.ensures)
