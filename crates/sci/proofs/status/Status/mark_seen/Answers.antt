use Rattle.sci.specs.model.Status.{mark_seen}
use Rattle.sci.proofs.status.Status.mark_seen.Goals as goal

pub returns : goal.returns
unfolding mark_seen
returns c = rw c.insert.ensures
