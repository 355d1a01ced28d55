use Rattle.qsm.specs.model.Event.{does, step}
use Rattle.tool_lines.proofs.Lines.held_for.Goals as goal

pub returns : goal.returns
unfolding does step
returns c = rw c.step-s.ensures
