use Rattle.qspi.proofs.Qspi.quiet_if.Goals as goal

pub returns-then-fault : goal.returns-then-fault
returns-then-fault c = rw (c.if-fault.true, c.if-enabled.true)

pub returns-else-fault : goal.returns-else-fault
returns-else-fault c = rw (c.before_change.ensures, c.ready.ensures, c.if-fault.false, c.if-enabled.true)

pub returns-else-enabled : goal.returns-else-enabled
returns-else-enabled c = rw c.if-enabled.false
