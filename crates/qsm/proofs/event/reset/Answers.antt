use Rattle.qsm.specs.model.Event.{resets}
use Rattle.qsm.proofs.event.reset.Goals as goal

pub returns : goal.returns
unfolding resets
returns c = rw (c.with.ensures, c.answer.ensures, c.done-d.ensures, c.reset.ensures)
