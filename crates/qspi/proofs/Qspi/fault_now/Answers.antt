use Rattle.qspi.proofs.Qspi.fault_now.Goals as goal

pub returns : goal.returns
returns c = cc
