use Rattle.sci.specs.quick.Plain.{rests}
use Rattle.sci.proofs.framer.Framer.rests.Goals as goal

pub returns : goal.returns
unfolding rests
returns c = rw c.busy.ensures
