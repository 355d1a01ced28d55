use Rattle.qspi.proofs.entry.changes.Goals as goal

pub returns-then-cpha : goal.returns-then-cpha
returns-then-cpha c = rw c.if-cpha.true

pub returns-else-cpha : goal.returns-else-cpha
returns-else-cpha c = rw c.if-cpha.false
