use Rattle.drivers.specs.Event.{restarted}
use Rattle.drivers.proofs.state.Shared.restarted.Goals as goal

pub returns : goal.returns
unfolding restarted
returns c = rw (c.played.ensures, c.with_holder.ensures, c.fixed.ensures)
