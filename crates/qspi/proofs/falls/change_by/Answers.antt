use Rattle.qspi.proofs.falls.change_by.Goals as goal

pub returns : goal.returns
returns c = rw (c.choose.ensures, c.saturating_sub.ensures, c.changes.ensures)
