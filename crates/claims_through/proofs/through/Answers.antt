use mathlib.Core.Path.{refl}
use Rattle.claims_through.proofs.Whole.{through}
use Rattle.claims_through.proofs.through.Goals as goal

pub returns : goal.returns
returns c = (refl, through)
