use Rattle.qspi.proofs.Qspi.write_spcr2.Goals as goal

pub returns : goal.returns
returns c = rw (c.spcr2_bits-spcr2.ensures, c.merge.ensures)
