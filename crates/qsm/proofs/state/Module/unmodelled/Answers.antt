use Rattle.qsm.specs.model.Word.{unmodelled}
use Rattle.qsm.proofs.state.Module.unmodelled.Goals as goal

pub returns-in-Own : goal.returns-in-Own
unfolding unmodelled
returns-in-Own c = rw (c.own_unmodelled.ensures, c.in-Own.is)

pub returns-in-Serial : goal.returns-in-Serial
unfolding unmodelled
returns-in-Serial c = rw (c.serial_unmodelled.ensures, c.in-Serial.is)

pub returns-in-Queue : goal.returns-in-Queue
unfolding unmodelled
returns-in-Queue c = rw (c.queue_unmodelled.ensures, c.in-Queue.is)

pub returns-in-Hole : goal.returns-in-Hole
unfolding unmodelled
returns-in-Hole c = rw c.in-Hole.is
