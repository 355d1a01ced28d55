use Rattle.text.specs.Register.{register}
use Rattle.text.proofs.line.Line.register.Goals as goal

pub returns-in-Own : goal.returns-in-Own
unfolding register
returns-in-Own c = rw (c.own.ensures, c.in-Own.is)

pub returns-in-Serial : goal.returns-in-Serial
unfolding register
returns-in-Serial c = rw (c.serial.ensures, c.in-Serial.is)

pub returns-in-Queue : goal.returns-in-Queue
unfolding register
returns-in-Queue c = rw (c.queue.ensures, c.in-Queue.is)

pub returns-in-Hole : goal.returns-in-Hole
unfolding register
returns-in-Hole c = rw (c.write.ensures, c.in-Hole.is)
