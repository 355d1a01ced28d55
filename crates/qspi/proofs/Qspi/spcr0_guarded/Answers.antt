use Rattle.qspi.proofs.Qspi.spcr0_guarded.Goals as goal

pub returns : goal.returns
returns c = rw (c.merge.ensures, c.spe.ensures)
