use Rattle.qsm.specs.model.Event.{step}
use Rattle.tool_lines.proofs.Lines.accessed.Goals as goal

pub returns : goal.returns
unfolding step
returns c = rw c.step-s.ensures
