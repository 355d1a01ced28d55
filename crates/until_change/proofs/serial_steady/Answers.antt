use native.Mathlib.Omega.{arith}
use Rattle.until_change.proofs.serial_steady.Goals as goal

pub returns-then-rests : goal.returns-then-rests
returns-then-rests c = record { value = rw (← c.rests.ensures, c.if-rests.true); bound = omega arith }

pub returns-else-rests : goal.returns-else-rests
returns-else-rests c = record { value = rw (c.quiet.ensures, ← c.rests.ensures, c.if-rests.false); bound = omega arith }
