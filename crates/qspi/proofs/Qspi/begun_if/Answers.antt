use Rattle.qspi.proofs.Qspi.begun_if.Goals as goal

pub returns-then-starts : goal.returns-then-starts
returns-then-starts c = rw (c.begun.ensures, c.if-starts.true)

pub returns-else-starts : goal.returns-else-starts
returns-else-starts c = rw c.if-starts.false
