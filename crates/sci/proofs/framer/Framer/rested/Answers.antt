use Rattle.sci.specs.quick.Plain.{rested}
use Rattle.sci.proofs.framer.Framer.rested.Goals as goal

pub returns-then-self : goal.returns-then-self
unfolding rested
returns-then-self c = rw c.if-self.true

pub returns-else-self : goal.returns-else-self
unfolding rested
returns-else-self c = rw c.if-self.false
