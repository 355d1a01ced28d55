use borrow.Author.Tests.{ne_eqb}
use Rattle.text.specs.Verdict.{more}
use Rattle.text.proofs.Puts.{puts_none, put_puts, puts_append}
use Rattle.text.proofs.line.Line.more.Goals as goal

pub returns-then-n-eq0 : goal.returns-then-n-eq0
unfolding more
returns-then-n-eq0 c = rw (c.if-n-eq0.true, puts_none)

pub returns : goal.returns
unfolding more
returns c =
    rw (
      c.write-3.ensures,
      c.decimal.ensures,
      c.write-2.ensures,
      c.put.ensures,
      c.write.ensures,
      put_puts,
      ne_eqb _ _ c.if-n-eq0.false,
    ) (simp puts_append)
