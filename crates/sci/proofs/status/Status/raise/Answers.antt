use Rattle.sci.specs.model.Status.{raise}
use Rattle.sci.proofs.status.Status.raise.Goals as goal

pub returns : goal.returns
unfolding raise
returns c = rw c.insert.ensures
