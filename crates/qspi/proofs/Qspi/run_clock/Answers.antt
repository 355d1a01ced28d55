use Rattle.qspi.proofs.Qspi.run_clock.Goals as goal

pub returns-then-playing : goal.returns-then-playing
returns-then-playing c = rw (c.play_clock.ensures, c.if-playing.true)

pub returns-then-delaying : goal.returns-then-delaying
returns-then-delaying c = rw (c.delay_clock.ensures, c.if-delaying.true, c.if-playing.false)

pub returns-else-delaying : goal.returns-else-delaying
returns-else-delaying c = rw (c.if-delaying.false, c.if-playing.false)
