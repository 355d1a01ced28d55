use Rattle.qspi.proofs.entry.Entry.edge_fallen.Goals as goal

pub returns : goal.returns
returns c = rw (c.collected_after.ensures, c.cpha-2.ensures, c.mosi_after.ensures, c.bits_of.ensures, c.cpha.ensures, c.spbr.ensures)
