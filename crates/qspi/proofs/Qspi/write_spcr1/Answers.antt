use Rattle.qspi.specs.model.Registers.{write_spcr1}
use Rattle.qspi.proofs.Qspi.write_spcr1.Goals as goal

pub returns : goal.returns
unfolding write_spcr1
returns c = rw (c.switched.ensures, c.spe.ensures, c.merge-spcr1.ensures, c.spe-before.ensures)
