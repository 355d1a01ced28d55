use borrow.Author.Tests.{ne_eqb}
use Rattle.text.proofs.Puts.{puts_append}
use Rattle.text.specs.Answer.{request}
use Rattle.text.proofs.line.Line.request.Goals as goal

pub returns-then-level-eq0 : goal.returns-then-level-eq0
unfolding request
returns-then-level-eq0 c = rw (c.write.ensures, c.if-level-eq0.true)

pub returns-else-level-eq0 : goal.returns-else-level-eq0
unfolding request
returns-else-level-eq0 c =
    rw (
      c.hex_byte.ensures,
      c.write-else-level-eq0-2.ensures,
      c.decimal.ensures,
      c.write-else-level-eq0.ensures,
      ne_eqb _ _ c.if-level-eq0.false,
    ) (simp puts_append)
