use Rattle.sci.specs.model.Framer.{framed}
use Rattle.sci.proofs.framer.Framer.framed.Goals as goal

pub returns-then-adjusts : goal.returns-then-adjusts
unfolding framed
returns-then-adjusts c = rw (c.adjusted.ensures, ← c.adjusts.ensures, c.if-adjusts.true)

pub returns-else-adjusts : goal.returns-else-adjusts
unfolding framed
returns-else-adjusts c = rw (c.fixed.ensures, ← c.adjusts.ensures, c.if-adjusts.false)
