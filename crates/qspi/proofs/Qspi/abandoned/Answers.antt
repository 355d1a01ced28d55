use Rattle.qspi.proofs.Qspi.abandoned.Goals as goal

pub returns : goal.returns
returns c = rw c.abandoned-self.ensures
