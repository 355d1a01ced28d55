use Rattle.sci.specs.model.Serial.{wrote_sccr0}
use Rattle.sci.proofs.serial.Sci.write_sccr0.Goals as goal

pub returns : goal.returns
unfolding wrote_sccr0
returns c = rw (c.sccr0_set.ensures, c.sccr0_bits-new.ensures, c.merge.ensures)
