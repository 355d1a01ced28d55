use Rattle.sci.specs.model.Status.{fall_seen}
use Rattle.sci.proofs.status.Status.fall_seen.Goals as goal

pub returns : goal.returns
unfolding fall_seen
returns c = rw (c.fall.ensures, c.common.ensures, c.common-falls.ensures)
