use mathlib.Core.Path.{refl}
use Rattle.claims_account.proofs.Lifting as lifting
use Rattle.claims_account.proofs.Losing.{losing}
use Rattle.claims_account.proofs.shown.Goals as goal

pub returns : goal.returns
returns c = (refl, lifting.accounted, losing)
