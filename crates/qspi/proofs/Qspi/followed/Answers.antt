use Rattle.qspi.proofs.Qspi.followed.Goals as goal

pub returns-then-wrap : goal.returns-then-wrap
returns-then-wrap c = rw (c.wrapped.ensures, c.if-wrap.true, c.if-last.true)

pub returns-else-wrap : goal.returns-else-wrap
returns-else-wrap c = rw (c.finished.ensures, c.if-wrap.false, c.if-last.true)

pub returns-else-last : goal.returns-else-last
returns-else-last c = rw (c.advanced.ensures, c.if-last.false)
