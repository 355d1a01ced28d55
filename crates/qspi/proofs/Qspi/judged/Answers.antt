use Rattle.qspi.proofs.Qspi.judged.Goals as goal

pub returns-then-end : goal.returns-then-end
returns-then-end c = rw (c.completed.ensures, c.if-end.true)

pub returns-else-end : goal.returns-else-end
returns-else-end c = rw c.if-end.false
