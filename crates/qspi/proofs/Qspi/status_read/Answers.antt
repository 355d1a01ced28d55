use Rattle.qspi.proofs.Qspi.status_read.Goals as goal

pub returns : goal.returns
returns c = rw c.flags_seen-self.ensures
