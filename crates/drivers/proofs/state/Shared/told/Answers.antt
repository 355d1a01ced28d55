use Rattle.drivers.specs.Event.{told}
use Rattle.drivers.proofs.state.Shared.told.Goals as goal

pub returns : goal.returns
unfolding told
returns c = rw c.answer.ensures
