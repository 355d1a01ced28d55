use Rattle.sci.specs.model.Status.{fall_if}
use borrow.Author.Rules.{rules}
use Rattle.sci.proofs.status.Status.fall_if.Goals as goal

pub returns-then-falls : goal.returns-then-falls
unfolding fall_if
returns-then-falls c = rw (c.fall.ensures, c.if-falls.true)

pub returns-else-falls : goal.returns-else-falls
unfolding fall_if
returns-else-falls c = search rules
