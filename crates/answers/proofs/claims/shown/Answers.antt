use mathlib.Core.Path.{refl}
use Rattle.answers.proofs.Laws.{laws}
use Rattle.answers.proofs.claims.shown.Goals as goal

pub returns : goal.returns
returns c = (refl, laws)
