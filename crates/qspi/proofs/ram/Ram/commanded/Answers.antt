use Rattle.qspi.proofs.ram.Ram.commanded.Goals as goal

pub returns : goal.returns
returns c = rw (c.lower_byte.ensures, c.upper_byte.ensures)
