use borrow.Author.Tests.{lt-ltb, le-ltb}
use Rattle.text.specs.Line.{put}
use Rattle.text.proofs.line.Line.put.Goals as goal

pub returns-then-at-lt184 : goal.returns-then-at-lt184
unfolding put
returns-then-at-lt184 c = simp (lt-ltb _ _ c.if-at-lt184.true)

pub returns-else-at-lt184 : goal.returns-else-at-lt184
unfolding put
returns-else-at-lt184 c = simp (le-ltb _ _ c.if-at-lt184.false)
