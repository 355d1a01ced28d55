use Rattle.qspi.proofs.Qspi.finished.Goals as goal

pub returns : goal.returns
returns c = rw (c.abandoned-self.ensures, c.disabled-self.ensures)
