use mathlib.Core.Path.{refl}
use Rattle.claims_polling.proofs.Spaced.{spaced}
use Rattle.claims_polling.proofs.spacing.Goals as goal

pub returns : goal.returns
returns c = (refl, spaced)
