use mathlib.Core.Path.{refl}
use Rattle.qsm.proofs.Counting as proved
use Rattle.qsm.proofs.holds.counting.Goals as goal

pub returns : goal.returns
returns c = (refl, proved.counting)
