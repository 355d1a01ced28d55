use Rattle.sci.specs.model.Status.{fall}
use Rattle.sci.proofs.status.Status.fall.Goals as goal

pub returns : goal.returns
unfolding fall
returns c = rw (c.without-2.ensures, c.without.ensures)
