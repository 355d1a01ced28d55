use Rattle.qspi.proofs.entry.Entry.counted_down.Goals as goal

pub returns : goal.returns
returns c = rw (c.cont.ensures, c.less.ensures)
