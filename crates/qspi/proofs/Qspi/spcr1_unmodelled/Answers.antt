use Rattle.qspi.proofs.Qspi.spcr1_unmodelled.Goals as goal

pub returns : goal.returns
returns c = rw (c.mstr.ensures, c.spe.ensures)
