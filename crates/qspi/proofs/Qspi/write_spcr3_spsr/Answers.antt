use Rattle.qspi.proofs.Qspi.write_spcr3_spsr.Goals as goal

pub returns : goal.returns
returns c = rw (c.written-self.ensures, c.choose-spcr3.ensures, c.upper_byte.ensures)
