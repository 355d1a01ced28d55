use Rattle.sci.specs.model.Receiver.{status_after}
use Rattle.sci.proofs.receiver.status_after.Goals as goal

pub returns : goal.returns
unfolding status_after
returns c = rw (c.raise_if.ensures, c.fall_if-quiet.ensures, c.raise_if-active.ensures, c.entered-taken.ensures, c.raise_if-lost.ensures)
