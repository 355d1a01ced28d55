use Rattle.qsm.proofs.event.answer_of.Goals as goal

pub returns : goal.returns
returns c = rw (c.mask.ensures, c.levels.ensures)
