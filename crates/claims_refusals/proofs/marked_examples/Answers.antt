use mathlib.Core.Path.{refl}
use Rattle.claims_refusals.proofs.Marked.{marked}
use Rattle.claims_refusals.proofs.marked_examples.Goals as goal

pub returns : goal.returns
returns c = (refl, marked)
