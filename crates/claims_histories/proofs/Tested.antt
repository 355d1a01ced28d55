-- What a permitted access was tested for.
use mathlib.Core.Path.{◌≡◌, refl}
use mathlib.Core.Bool.{Bool, true, false, false≢true}
use Rattle.qsm.specs.model.Decision.{permits, tested, verdict, gate}
use Rattle.qsm.specs.declared.decision.Decision.{Decision}
use Rattle.qsm.specs.declared.decision.Decision.TheVariants.{Permitted, Blocked, Misshapen, Unmapped, Unmodelled, Guarded}

pub tested_admitted : (d : Decision) (unmodelled guarded : Bool) → permits (tested d (permits d) unmodelled guarded) ≡ true →
    permits d ≡ true
tested_admitted Permitted u g e = refl
tested_admitted Blocked u g e = e
tested_admitted Misshapen u g e = e
tested_admitted Unmapped u g e = e
tested_admitted Unmodelled u g e = e
tested_admitted Guarded u g e = e

tested_verdict : (u g : Bool) → permits (verdict u g) ≡ true → g ≡ false
tested_verdict true g e = absurd (false≢true e)
tested_verdict false true e = absurd (false≢true e)
tested_verdict false false e = refl

pub tested_unguarded : (d : Decision) (unmodelled guarded : Bool) → permits (tested d (permits d) unmodelled guarded) ≡ true →
    guarded ≡ false
tested_unguarded Permitted u g e = tested_verdict u g e
tested_unguarded Blocked u g e = absurd (false≢true e)
tested_unguarded Misshapen u g e = absurd (false≢true e)
tested_unguarded Unmapped u g e = absurd (false≢true e)
tested_unguarded Unmodelled u g e = absurd (false≢true e)
tested_unguarded Guarded u g e = absurd (false≢true e)

pub gate_shaped : (a b c : Bool) → permits (gate a b c) ≡ true → a ≡ true
gate_shaped true b c e = refl
gate_shaped false b c e = absurd (false≢true e)

pub gate_mapped : (a b c : Bool) → permits (gate a b c) ≡ true → b ≡ true
gate_mapped true true c e = refl
gate_mapped true false c e = absurd (false≢true e)
gate_mapped false b c e = absurd (false≢true e)
