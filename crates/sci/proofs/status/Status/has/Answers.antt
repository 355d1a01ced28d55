use Rattle.sci.specs.model.Status.{has}
use Rattle.sci.proofs.status.Status.has.Goals as goal

pub returns : goal.returns
unfolding has
returns c = rw c.contains.ensures
