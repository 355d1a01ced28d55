use Rattle.qsm.specs.model.Decision.{admitted, decide_read}
use Rattle.qsm.specs.model.Event.{answer_of, refused, reads, does, step}
use Rattle.drivers.proofs.event.answer.Goals as goal

pub returns : goal.returns
unfolding answer_of step does reads decide_read admitted refused
returns c = rw c.step-r.ensures
