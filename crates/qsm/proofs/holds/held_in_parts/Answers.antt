use mathlib.Core.Path.{refl}
use Rattle.qsm.proofs.Splitting.{held_in_parts}
use Rattle.qsm.proofs.holds.held_in_parts.Goals as goal

pub returns : goal.returns
returns c = (refl, held_in_parts)
