use Rattle.drivers.proofs.state.Shared.fixed.Goals as goal

pub returns-then-begun : goal.returns-then-begun
returns-then-begun c = rw (← c.begun.ensures, c.if-begun.true)

pub returns-else-begun : goal.returns-else-begun
returns-else-begun c = rw (c.with_split.ensures, ← c.begun.ensures, c.if-begun.false)
