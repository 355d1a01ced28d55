use Rattle.drivers.specs.Event.{step}
use Rattle.drivers.proofs.event.step.Goals as goal

pub returns-then-refuses : goal.returns-then-refuses
unfolding step
returns-then-refuses c = rw (c.told.ensures, ← c.refuses.ensures, c.if-refuses.true)

pub returns-else-refuses : goal.returns-else-refuses
unfolding step
returns-else-refuses c = rw (c.does.ensures, ← c.refuses.ensures, c.if-refuses.false)
