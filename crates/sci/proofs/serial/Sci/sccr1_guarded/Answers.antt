use Rattle.sci.specs.model.Serial.{sccr1_guarded}
use Rattle.sci.proofs.serial.Sci.sccr1_guarded.Goals as goal

pub returns : goal.returns
unfolding sccr1_guarded
returns c = rw (c.settings-2.ensures, c.settings.ensures, c.active.ensures, c.merge-new.ensures)
