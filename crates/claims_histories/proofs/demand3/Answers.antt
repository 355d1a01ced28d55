use mathlib.Core.Path.{refl}
use Rattle.claims_histories.proofs.Comparing.{demand3}
use Rattle.claims_histories.proofs.Witness.{met}
use Rattle.claims_histories.proofs.demand3.Goals as goal

pub returns : goal.returns
returns c = (refl, demand3, met)
