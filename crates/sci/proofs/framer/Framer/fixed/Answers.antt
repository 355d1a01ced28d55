use Rattle.sci.specs.model.Framer.{fixed}
use Rattle.sci.proofs.framer.Framer.fixed.Goals as goal

pub returns-then-self : goal.returns-then-self
unfolding fixed
returns-then-self c = rw (c.in_bit.ensures, c.if-self.true)

pub returns-else-self : goal.returns-else-self
unfolding fixed
returns-else-self c = rw (c.searched.ensures, c.bits_of.ensures, c.begins.ensures, c.if-self.false)
