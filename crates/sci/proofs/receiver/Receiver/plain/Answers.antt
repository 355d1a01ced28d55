use Rattle.sci.specs.quick.Plain.{plain}
use Rattle.sci.proofs.receiver.Receiver.plain.Goals as goal

pub returns : goal.returns
unfolding plain
returns c = rw (c.reaches.ensures, c.rests.ensures, c.three.ensures)
