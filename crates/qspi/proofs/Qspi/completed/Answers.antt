use Rattle.qspi.specs.model.Queue.{completed}
use Rattle.qspi.proofs.Qspi.completed.Goals as goal

pub returns : goal.returns
unfolding completed
returns c = rw (c.followed.ensures, c.wren.ensures, c.stored.ensures)
