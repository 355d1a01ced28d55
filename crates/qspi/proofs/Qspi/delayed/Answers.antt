use Rattle.qspi.proofs.Qspi.delayed.Goals as goal

pub returns-then-last : goal.returns-then-last
returns-then-last c = rw (c.delay_over-self.ensures, c.halt-halts.ensures, c.if-last.true)

pub returns : goal.returns
returns c = rw (c.in_delay-self.ensures, c.if-last.false)
