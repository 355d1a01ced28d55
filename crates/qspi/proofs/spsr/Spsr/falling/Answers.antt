use Rattle.qspi.proofs.spsr.Spsr.falling.Goals as goal

pub returns : goal.returns
returns c = rw (c.falls-3.ensures, c.falls-2.ensures, c.falls.ensures)
