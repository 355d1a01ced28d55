use mathlib.Core.Path.{refl}
use Rattle.until_change.proofs.Later.{shown_laws}
use Rattle.until_change.proofs.claims.shown.Goals as goal

pub returns : goal.returns
returns c = (refl, shown_laws)
