use mathlib.Core.Path.{refl}
use Rattle.claims_text.proofs.Sending.{text_words}
use Rattle.claims_text.proofs.text_words.Goals as goal

pub returns : goal.returns
returns c = (refl, text_words)
