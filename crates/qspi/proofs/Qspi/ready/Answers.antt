use Rattle.qspi.proofs.Qspi.ready.Goals as goal

pub returns : goal.returns
returns c = rw (c.halt.ensures, c.spbr.ensures)
