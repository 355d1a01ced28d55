use Rattle.qspi.proofs.spsr.Spsr.flags_seen.Goals as goal

pub returns : goal.returns
returns c = rw c.either-self.ensures
