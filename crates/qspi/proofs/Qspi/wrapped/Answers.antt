use Rattle.qspi.proofs.Qspi.wrapped.Goals as goal

pub returns : goal.returns
returns c = rw c.wrap_to-to.ensures
