use Rattle.qsm.specs.model.State.{reset_module}
use Rattle.qsm.proofs.state.Module.reset.Goals as goal

pub returns : goal.returns
unfolding reset_module
returns c = rw (c.reset-2.ensures, c.reset.ensures)
