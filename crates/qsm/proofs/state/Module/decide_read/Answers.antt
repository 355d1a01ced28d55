use Rattle.qsm.specs.model.Decision.{decide_read}
use Rattle.qsm.proofs.state.Module.decide_read.Goals as goal

pub returns : goal.returns
unfolding decide_read
returns c = rw (c.admitted.ensures, c.shaped.ensures)
