use Rattle.qspi.specs.quick.Quiet.{quiet}
use Rattle.qspi.proofs.Qspi.quiet.Goals as goal

pub returns : goal.returns
unfolding quiet
returns c = rw (c.quiet_if.ensures, c.fault_now.ensures, c.spe.ensures)
