use Rattle.qsm.specs.model.Word.{guarded}
use Rattle.qsm.proofs.state.Module.guarded.Goals as goal

pub returns-in-Own : goal.returns-in-Own
unfolding guarded
returns-in-Own c = rw c.in-Own.is

pub returns-in-Serial : goal.returns-in-Serial
unfolding guarded
returns-in-Serial c = rw (c.serial_guarded.ensures, c.in-Serial.is)

pub returns-in-Queue : goal.returns-in-Queue
unfolding guarded
returns-in-Queue c = rw (c.queue_guarded.ensures, c.in-Queue.is)

pub returns-in-Hole : goal.returns-in-Hole
unfolding guarded
returns-in-Hole c = rw c.in-Hole.is
