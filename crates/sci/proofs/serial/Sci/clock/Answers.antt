use Rattle.sci.specs.model.Serial.{clocked}
use Rattle.sci.proofs.serial.Sci.clock.Goals as goal

pub returns-then-active : goal.returns-then-active
unfolding clocked
returns-then-active c = rw (c.prescaled.ensures, c.due.ensures, ← c.active.ensures, c.if-active.true)

pub returns-else-active : goal.returns-else-active
unfolding clocked
returns-else-active c = rw (← c.active.ensures, c.if-active.false)
