use borrow.Author.Tests.{ne_eqb}
use Rattle.text.proofs.Puts.{puts_append}
use Rattle.text.specs.Answer.{pins}
use Rattle.text.proofs.line.Line.pins.Goals as goal

pub returns-then-mask-eq0 : goal.returns-then-mask-eq0
unfolding pins
returns-then-mask-eq0 c = rw (c.write.ensures, c.if-mask-eq0.true)

pub returns-else-mask-eq0 : goal.returns-else-mask-eq0
unfolding pins
returns-else-mask-eq0 c = rw (c.each_pin.ensures, c.write-else-mask-eq0.ensures, ne_eqb _ _ c.if-mask-eq0.false) (simp puts_append)
