use Rattle.sci.specs.model.Receiver.{raised}
use Rattle.sci.proofs.receiver.raised.Goals as goal

pub returns : goal.returns
unfolding raised
returns c = rw (c.raise_if.ensures, c.raise_if-broken.ensures, c.raise_if-noisy.ensures, c.raise-full.ensures)
