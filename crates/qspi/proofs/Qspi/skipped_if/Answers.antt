use Rattle.qspi.proofs.Qspi.skipped_if.Goals as goal

pub returns-then-counts : goal.returns-then-counts
returns-then-counts c = rw (c.counted_down-self.ensures, c.if-counts.true)

pub returns : goal.returns
returns c = rw c.if-counts.false
