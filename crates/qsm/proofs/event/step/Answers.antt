use Rattle.qsm.specs.model.Event.{step}
use Rattle.qsm.proofs.event.step.Goals as goal

pub returns : goal.returns
unfolding step
returns c = rw (c.with.ensures, c.answer.ensures, c.does-d.ensures)
