use mathlib.Core.Path.{refl}
use Rattle.claims_text.proofs.Ordered.{text_through}
use Rattle.claims_text.proofs.text_through.Goals as goal

pub returns : goal.returns
returns c = (refl, text_through)
