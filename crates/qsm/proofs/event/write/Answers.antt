use Rattle.qsm.proofs.event.write.Goals as goal

pub returns : goal.returns
returns c = rw (c.with.ensures, c.answer.ensures, c.writes-d.ensures)
