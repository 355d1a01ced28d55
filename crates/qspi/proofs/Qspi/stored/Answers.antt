use Rattle.qspi.proofs.Qspi.stored.Goals as goal

pub returns : goal.returns
returns c =
    rw (c.delay_begun-self.ensures, c.delay_after.ensures, c.received-self.ensures)
