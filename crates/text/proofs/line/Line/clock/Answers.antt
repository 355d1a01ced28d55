use borrow.Author.Tests.{eq-eqb, ne_eqb}
use Rattle.text.proofs.Puts.{puts_none, puts_append}
use Rattle.text.specs.Answer.{clock}
use Rattle.text.proofs.line.Line.clock.Goals as goal

pub returns-then-kind-eq-CLOCKED : goal.returns-then-kind-eq-CLOCKED
unfolding clock
returns-then-kind-eq-CLOCKED c = rw (c.decimal.ensures, c.write.ensures, eq-eqb _ _ c.if-kind-eq-CLOCKED.true) (simp puts_append)

pub returns-else-kind-eq-CLOCKED : goal.returns-else-kind-eq-CLOCKED
unfolding clock
returns-else-kind-eq-CLOCKED c = rw (ne_eqb _ _ c.if-kind-eq-CLOCKED.false, puts_none)
