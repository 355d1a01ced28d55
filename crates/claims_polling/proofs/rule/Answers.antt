use mathlib.Core.Path.{refl}
use Rattle.claims_polling.proofs.Ruled.{stretch, clears, kept}
use Rattle.claims_polling.proofs.Losing.{loses}
use Rattle.claims_polling.proofs.rule.Goals as goal

pub returns : goal.returns
returns c = (refl, record { stretch = stretch; clears = clears; kept = kept; loses = loses })
