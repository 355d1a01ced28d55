use Rattle.qspi.proofs.entry.Entry.ticked.Goals as goal

pub returns : goal.returns
returns c = rw c.saturating_sub.ensures
