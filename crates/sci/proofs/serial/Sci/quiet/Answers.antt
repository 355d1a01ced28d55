use Rattle.sci.specs.quick.Quiet.{quiet}
use Rattle.sci.proofs.serial.Sci.quiet.Goals as goal

pub returns-then-active : goal.returns-then-active
unfolding quiet
returns-then-active c = rw (c.until_due.ensures, ← c.active.ensures, c.if-active.true)

pub returns-else-active : goal.returns-else-active
unfolding quiet
returns-else-active c = rw (← c.active.ensures, c.if-active.false)
