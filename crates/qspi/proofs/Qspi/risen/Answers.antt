use Rattle.qspi.proofs.Qspi.risen.Goals as goal

pub returns : goal.returns
returns c = rw (c.silent-self.ensures, c.abandoned.ensures)
