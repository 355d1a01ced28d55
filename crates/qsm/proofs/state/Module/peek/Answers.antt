use Rattle.qsm.specs.model.Word.{peek}
use Rattle.qsm.proofs.state.Module.peek.Goals as goal

pub returns-in-Own : goal.returns-in-Own
unfolding peek
returns-in-Own c = rw (c.peek_own.ensures, c.in-Own.is)

pub returns-in-Serial : goal.returns-in-Serial
unfolding peek
returns-in-Serial c = rw (c.peek_serial.ensures, c.in-Serial.is)

pub returns-in-Queue : goal.returns-in-Queue
unfolding peek
returns-in-Queue c = rw (c.peek_queue.ensures, c.in-Queue.is)

pub returns-in-Hole : goal.returns-in-Hole
unfolding peek
returns-in-Hole c = rw c.in-Hole.is
