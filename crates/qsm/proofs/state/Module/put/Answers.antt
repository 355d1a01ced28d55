use Rattle.qsm.specs.model.Word.{put}
use Rattle.qsm.proofs.state.Module.put.Goals as goal

pub returns-in-Own : goal.returns-in-Own
unfolding put
returns-in-Own c = rw (c.put_own.ensures, c.in-Own.is)

pub returns-in-Serial : goal.returns-in-Serial
unfolding put
returns-in-Serial c = rw (c.with_sci.ensures, c.put_serial.ensures, c.in-Serial.is)

pub returns-in-Queue : goal.returns-in-Queue
unfolding put
returns-in-Queue c = rw (c.with_qspi.ensures, c.put_queue.ensures, c.in-Queue.is)

pub returns-in-Hole : goal.returns-in-Hole
unfolding put
returns-in-Hole c = rw c.in-Hole.is
