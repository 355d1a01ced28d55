use Rattle.sci.specs.model.Receiver.{entered}
use borrow.Author.Rules.{rules}
use Rattle.sci.proofs.receiver.entered.Goals as goal

pub returns-then-enters : goal.returns-then-enters
unfolding entered
returns-then-enters c = rw (c.raised.ensures, c.if-enters.true)

pub returns-else-enters : goal.returns-else-enters
unfolding entered
returns-else-enters c = search rules
