use Rattle.qspi.proofs.clocks.before_change.Goals as goal

pub returns-then-running : goal.returns-then-running
returns-then-running c = rw (c.saturating_sub.ensures, c.if-running.true)
