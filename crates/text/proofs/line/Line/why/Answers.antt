use borrow.Author.Tests.{ne_eqb}
use Rattle.text.specs.Verdict.{why}
use Rattle.text.proofs.Puts.{puts_none}
use Rattle.text.proofs.line.Line.why.Goals as goal

pub returns-in-6 : goal.returns-in-6
unfolding why
returns-in-6 c = rw (c.write.ensures, c.in-6.is)

pub returns-in-7 : goal.returns-in-7
unfolding why
returns-in-7 c = rw (c.write-in-7.ensures, c.in-7.is)

pub returns-in_default : goal.returns-in_default
unfolding why
returns-in_default c = rw (ne_eqb _ 6 c.in_default.in_default-own.rest.0.1, ne_eqb _ 7 c.in_default.in_default-own.rest.1, puts_none)
