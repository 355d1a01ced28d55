use Rattle.qspi.proofs.Qspi.faulted.Goals as goal

pub returns-then-fault : goal.returns-then-fault
returns-then-fault c = rw (c.abandoned-self.ensures, c.disabled-self.ensures, c.if-fault.true)

pub returns : goal.returns
returns c = rw c.if-fault.false
