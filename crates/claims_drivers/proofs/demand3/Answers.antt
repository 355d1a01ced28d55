use mathlib.Core.Path.{refl}
use Rattle.claims_drivers.proofs.Following as following
use Rattle.claims_drivers.proofs.demand3.Goals as goal

pub returns : goal.returns
returns c = (refl, following.driven)
