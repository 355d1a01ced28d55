use Rattle.text.proofs.Puts.{puts_none, put_puts, puts_append}
use borrow.Author.Tests.{ne_eqb}
use Rattle.tool_wave.proofs.vcd.refused.Goals as goal

pub returns-then-why-eq0 : goal.returns-then-why-eq0
returns-then-why-eq0 c = rw (c.if-why-eq0.true, puts_none)

pub returns : goal.returns
returns c =
    let other = ne_eqb _ _ c.if-why-eq0.false in
    rw (c.put-3.ensures, c.put-2.ensures, c.put.ensures, other) (simp (put_puts, puts_append))
