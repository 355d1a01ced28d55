use Rattle.until_change.proofs.serial_still.Goals as goal

pub returns-then-rests : goal.returns-then-rests
returns-then-rests c = rw (← c.rests.ensures, c.if-rests.true)

pub returns-else-rests : goal.returns-else-rests
returns-else-rests c = rw (c.quiet.ensures, ← c.rests.ensures, c.if-rests.false)
