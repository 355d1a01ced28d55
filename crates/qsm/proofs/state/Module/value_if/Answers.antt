use Rattle.qsm.specs.model.Event.{read_value}
use Rattle.qsm.proofs.state.Module.value_if.Goals as goal

pub returns-then-permitted : goal.returns-then-permitted
unfolding read_value
returns-then-permitted c = rw (c.lane.ensures, c.words.ensures, c.upper_lane.ensures, c.if-permitted.true)

pub returns-else-permitted : goal.returns-else-permitted
returns-else-permitted c = rw c.if-permitted.false
