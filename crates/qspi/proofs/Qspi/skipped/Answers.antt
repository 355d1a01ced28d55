use Rattle.qspi.specs.quick.Quiet.{skipped}
use Rattle.qspi.proofs.Qspi.skipped.Goals as goal

pub returns : goal.returns
unfolding skipped
returns c = rw (c.skipped_if.ensures, c.spe.ensures)
