use mathlib.Core.Path.{refl}
use Rattle.claims_comparing.proofs.Numbers.{numbers}
use Rattle.claims_comparing.proofs.Cases.{cases}
use Rattle.claims_comparing.proofs.shown.Goals as goal

pub returns : goal.returns
returns c = (refl, record { numbers = numbers; cases = cases })
