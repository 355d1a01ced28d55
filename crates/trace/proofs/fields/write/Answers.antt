use borrow.Author.Tests.{lt-ltb, le-ltb}
use Rattle.trace.proofs.fields.write.Goals as goal

pub returns-then-rest-lt8 : goal.returns-then-rest-lt8
returns-then-rest-lt8 c = simp (lt-ltb _ _ c.if-rest-lt8.true)

pub returns : goal.returns
returns c = simp (c.width.ensures, c.supervisor.ensures, c.long-value.ensures, c.word-2.ensures, c.word.ensures, c.word-offset.ensures, le-ltb _ _ c.if-rest-lt8.false)
