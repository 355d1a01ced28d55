use Rattle.qspi.proofs.entry.Entry.in_delay.Goals as goal

pub returns : goal.returns
returns c = rw (c.cont.ensures, c.saturating_sub.ensures)
