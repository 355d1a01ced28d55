use Rattle.drivers.specs.Event.{played}
use Rattle.drivers.proofs.state.Shared.played.Goals as goal

pub returns : goal.returns
unfolding played
returns c = rw c.step-r.ensures
