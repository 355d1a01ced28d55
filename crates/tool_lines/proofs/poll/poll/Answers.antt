use Rattle.qsm.specs.model.Event.{does, answer_of, step}
use Rattle.tool_lines.specs.Poll.{polled}
use Rattle.tool_lines.proofs.poll.poll.Goals as goal

pub returns : goal.returns
unfolding polled does answer_of step
returns c = rw (c.taking.ensures, c.calls.ensures, c.step-s.ensures)
