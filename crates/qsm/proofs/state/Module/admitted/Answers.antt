use Rattle.qsm.specs.model.Decision.{admitted}
use Rattle.qsm.proofs.state.Module.admitted.Goals as goal

pub returns : goal.returns
unfolding admitted
returns c = rw (c.gate.ensures, c.barred.ensures, c.in_map.ensures)
