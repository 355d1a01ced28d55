use Rattle.qsm.proofs.state.Module.read_decided.Goals as goal

pub returns-then-permits : goal.returns-then-permits
returns-then-permits c = rw (c.done.ensures, c.after_read.ensures, c.read_value-value.ensures, ← c.permits.ensures, c.if-permits.true)

pub returns-else-permits : goal.returns-else-permits
returns-else-permits c = rw (c.refused.ensures, ← c.permits.ensures, c.if-permits.false)
