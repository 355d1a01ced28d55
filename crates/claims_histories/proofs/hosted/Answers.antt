use mathlib.Core.Path.{refl}
use Rattle.claims_histories.proofs.Keeping as keeping
use Rattle.claims_histories.proofs.hosted.Goals as goal

pub returns : goal.returns
returns c = (refl, keeping.hosted)
