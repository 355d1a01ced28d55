use Rattle.qspi.proofs.Qspi.counted.Goals as goal

pub returns-then-now : goal.returns-then-now
returns-then-now c = rw (c.edge.ensures, c.if-now.true)

pub returns : goal.returns
returns c = rw (c.ticked-self.ensures, c.if-now.false)
