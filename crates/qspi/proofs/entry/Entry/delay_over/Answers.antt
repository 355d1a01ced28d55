use Rattle.qspi.proofs.entry.Entry.delay_over.Goals as goal

pub returns : goal.returns
returns c = rw c.cont.ensures
