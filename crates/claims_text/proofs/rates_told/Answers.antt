use mathlib.Core.Path.{refl}
use Rattle.claims_text.proofs.Telling.{rates_told}
use Rattle.claims_text.proofs.rates_told.Goals as goal

pub returns : goal.returns
returns c = (refl, rates_told)
