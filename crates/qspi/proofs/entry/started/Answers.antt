use Rattle.qspi.proofs.entry.started.Goals as goal

pub returns : goal.returns
returns c = rw (c.mosi_after.ensures, c.bits_of.ensures, c.cpha.ensures, c.pre_delay.ensures)
