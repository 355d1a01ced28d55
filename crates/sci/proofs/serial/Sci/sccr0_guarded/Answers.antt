use Rattle.sci.specs.model.Serial.{sccr0_guarded}
use Rattle.sci.proofs.serial.Sci.sccr0_guarded.Goals as goal

pub returns : goal.returns
unfolding sccr0_guarded
returns c = rw (c.sccr0_bits-2.ensures, c.sccr0_bits.ensures, c.active.ensures, c.merge-new.ensures)
