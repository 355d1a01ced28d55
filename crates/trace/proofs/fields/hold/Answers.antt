use borrow.Author.Tests.{lt-ltb, le-ltb}
use Rattle.trace.proofs.fields.hold.Goals as goal

pub returns-then-rest-lt5 : goal.returns-then-rest-lt5
returns-then-rest-lt5 c = simp (lt-ltb _ _ c.if-rest-lt5.true)

pub returns : goal.returns
returns c = simp (c.word-clocks.ensures, le-ltb _ _ c.if-rest-lt5.false)
