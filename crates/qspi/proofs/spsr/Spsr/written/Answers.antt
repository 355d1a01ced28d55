use Rattle.qspi.proofs.spsr.Spsr.written.Goals as goal

pub returns : goal.returns
returns c = rw (c.without-self-2.ensures, c.without-self.ensures, c.falling-gone.ensures)
