use Rattle.text.specs.Line.{puts}
use Rattle.text.proofs.line.Line.long.Goals as goal

pub returns-then-is : goal.returns-then-is
returns-then-is c = rw (c.write.ensures, c.if-is.true)

pub returns-else-is : goal.returns-else-is
unfolding puts
returns-else-is c = rw c.if-is.false
