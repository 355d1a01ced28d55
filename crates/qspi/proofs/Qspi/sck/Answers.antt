use Rattle.qspi.proofs.Qspi.sck.Goals as goal

pub returns : goal.returns
returns c = rw (c.choose.ensures, c.cpol-rest.ensures)
