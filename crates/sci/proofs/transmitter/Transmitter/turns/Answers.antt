use Rattle.sci.specs.quick.Plain.{turns}
use Rattle.sci.proofs.transmitter.Transmitter.turns.Goals as goal

pub returns : goal.returns
unfolding turns
returns c = rw (c.has.ensures, c.te.ensures)
