use Rattle.qspi.proofs.inputs.miso_of.Goals as goal

pub returns : goal.returns
returns c = rw (c.bit_0-3.ensures, c.bit_0-2.ensures, c.bit_0.ensures)
