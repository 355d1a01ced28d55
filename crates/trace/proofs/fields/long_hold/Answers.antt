use borrow.Author.Tests.{lt-ltb, le-ltb}
use Rattle.trace.proofs.fields.long_hold.Goals as goal

pub returns-then-rest-lt7 : goal.returns-then-rest-lt7
returns-then-rest-lt7 c = simp (lt-ltb _ _ c.if-rest-lt7.true)

pub returns : goal.returns
returns c = simp (c.long-clocks.ensures, c.word-2.ensures, c.word.ensures, le-ltb _ _ c.if-rest-lt7.false)
