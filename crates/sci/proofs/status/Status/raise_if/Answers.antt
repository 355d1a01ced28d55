use Rattle.sci.specs.model.Status.{raise_if}
use borrow.Author.Rules.{rules}
use Rattle.sci.proofs.status.Status.raise_if.Goals as goal

pub returns-then-rises : goal.returns-then-rises
unfolding raise_if
returns-then-rises c = rw (c.raise.ensures, c.if-rises.true)

pub returns-else-rises : goal.returns-else-rises
unfolding raise_if
returns-else-rises c = search rules
