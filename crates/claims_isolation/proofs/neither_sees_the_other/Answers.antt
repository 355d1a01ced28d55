use mathlib.Core.Path.{refl}
use Rattle.claims_isolation.proofs.Neither.{neither_sees}
use Rattle.claims_isolation.proofs.Clocks.{its_clock, clock_by_clock}
use Rattle.claims_isolation.proofs.Witness.{met}
use Rattle.claims_isolation.proofs.neither_sees_the_other.Goals as goal

pub returns : goal.returns
returns c =
    (refl, record { neither_sees = neither_sees; its_clock = its_clock; clock_by_clock = clock_by_clock }, met)
