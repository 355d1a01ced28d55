use Rattle.text.proofs.Puts.{puts_none, put_puts, puts_append}
use borrow.Author.Tests.{eq-eqb, ne_eqb}
use Rattle.tool_wave.proofs.vcd.value.Goals as goal

pub returns-then-a-b : goal.returns-then-a-b
returns-then-a-b c = rw (eq-eqb _ _ c.if-a-b.true, puts_none)

pub returns : goal.returns
returns c =
    let other = ne_eqb _ _ c.if-a-b.false in
    rw (c.put-3.ensures, c.put-2.ensures, c.put.ensures, other) (simp (put_puts, puts_append))
