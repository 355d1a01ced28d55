use Rattle.sci.specs.model.Serial.{wrote_sccr1}
use Rattle.sci.proofs.serial.Sci.write_sccr1.Goals as goal

pub returns : goal.returns
unfolding wrote_sccr1
returns c = rw (c.stopped.ensures, c.re.ensures, c.with_sccr1-next.ensures, c.merge-new.ensures, c.sccr1.ensures)
