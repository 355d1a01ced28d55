use Rattle.qsm.proofs.Straight.{shown}
use Rattle.qsm.proofs.event.read.Goals as goal

pub returns : goal.returns
returns c =
    shown _ _ _ _ _ c.polls-d.ensures c.outputs_of.ensures c.asked_of.ensures
    c.answer_of-answer.ensures
