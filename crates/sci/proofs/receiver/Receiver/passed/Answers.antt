use Rattle.sci.specs.quick.Plain.{passed}
use Rattle.sci.proofs.receiver.Receiver.passed.Goals as goal

pub returns : goal.returns
unfolding passed
returns c = rw (c.idle_count.ensures, c.frame_samples.ensures, c.rested-self.ensures)
