use Rattle.qspi.proofs.entry.bit_out.Goals as goal

pub returns : goal.returns
returns c = rw (c.saturating_sub-2.ensures, c.saturating_sub.ensures)
