use mathlib.Core.Path.{refl}
use Rattle.claims_refusals.proofs.Demand1.{demand1}
use Rattle.claims_refusals.proofs.refusals.Goals as goal

pub returns : goal.returns
returns c = (refl, demand1)
