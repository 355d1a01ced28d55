use Rattle.qsm.proofs.state.Module.barred.Goals as goal

pub returns : goal.returns
returns c = rw c.is_restricted.ensures
