use Rattle.qsm.specs.model.Event.{answer_of}
use Rattle.qsm.proofs.event.Done.answer.Goals as goal

pub returns : goal.returns
unfolding answer_of
returns c = rw (c.answer_of.ensures, c.asked_of.ensures, c.outputs_of.ensures)
