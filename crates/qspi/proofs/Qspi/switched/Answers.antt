use Rattle.qspi.proofs.Qspi.switched.Goals as goal

pub returns-then-after : goal.returns-then-after
returns-then-after c = rw (c.if-after.true, c.if-before.true)

pub returns-else-after : goal.returns-else-after
returns-else-after c = rw (c.abandoned.ensures, c.if-after.false, c.if-before.true)

pub returns-then-after-2 : goal.returns-then-after-2
returns-then-after-2 c = rw (c.risen.ensures, c.if-after-2.true, c.if-before.false)

pub returns-else-after-2 : goal.returns-else-after-2
returns-else-after-2 c = rw (c.if-after-2.false, c.if-before.false)
