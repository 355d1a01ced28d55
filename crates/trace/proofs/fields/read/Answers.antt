use borrow.Author.Tests.{lt-ltb, le-ltb}
use Rattle.trace.proofs.fields.read.Goals as goal

pub returns-then-rest-lt4 : goal.returns-then-rest-lt4
returns-then-rest-lt4 c = simp (lt-ltb _ _ c.if-rest-lt4.true)

pub returns : goal.returns
returns c = simp (c.width.ensures, c.supervisor.ensures, c.word-offset.ensures, le-ltb _ _ c.if-rest-lt4.false)
