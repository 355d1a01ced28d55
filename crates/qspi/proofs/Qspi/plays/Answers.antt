use Rattle.qspi.proofs.Qspi.plays.Goals as goal

pub returns : goal.returns
returns c = rw (c.fault_now.ensures, c.spe.ensures)
