use Rattle.drivers.specs.State.{new_shared}
use Rattle.drivers.proofs.state.Shared.new.Goals as goal

pub returns : goal.returns
unfolding new_shared
returns c = rw c.reset.ensures
