use mathlib.Core.Path.{refl}
use Rattle.trace.proofs.LongHolds as proved
use Rattle.trace.proofs.claims.long_holds.Goals as goal

pub returns : goal.returns
returns c = (refl, proved.long_holds)
