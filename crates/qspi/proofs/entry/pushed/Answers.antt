use native.Mathlib.Omega.{arith}
use Rattle.qspi.proofs.entry.pushed.Goals as goal

pub returns-then-miso : goal.returns-then-miso
returns-then-miso c = rw c.if-miso.true

pub returns-else-miso : goal.returns-else-miso
returns-else-miso c = rw c.if-miso.false (omega arith)
