use Rattle.qsm.specs.model.Event.{does, answer_of, step}
use Rattle.tool_lines.proofs.poll.taking.Goals as goal

pub returns-then-reading : goal.returns-then-reading
unfolding does answer_of step
returns-then-reading c = rw (c.step-s.ensures, c.if-reading.true)

pub returns-else-reading : goal.returns-else-reading
returns-else-reading c = rw c.if-reading.false
