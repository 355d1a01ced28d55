use mathlib.Core.Path.{refl}
use Rattle.claims_text.proofs.Accounted.{text_lines_holds}
use Rattle.claims_text.proofs.text_lines.Goals as goal

pub returns : goal.returns
returns c = (refl, text_lines_holds)
