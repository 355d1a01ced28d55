use Rattle.qspi.proofs.Qspi.begun.Goals as goal

pub returns : goal.returns
returns c = rw (c.started-self.ensures, c.entry_at-at.ensures.value)
