-- The vote, worked out from the number of ones; and a start bit's vote at RT7.
use mathlib.Core.Bool.{Bool, true, false}
use mathlib.Core.Path.{◌≡◌, refl, ap, sym}
use Prim.Native.Nat.{◌+◌, ◌/◌, ◌%◌, ◌≤◌}
use native.Mathlib.Omega.{arith}
use lib.Dec.{leb}
use Rattle.steps.specs.Bits.{digit}
use Rattle.sci.specs.model.Bits.{vote, majority, disagreed, ones_of}
use Rattle.sci.specs.model.Framer.{judged}
use Rattle.sci.specs.declared.bits.Voted.{Voted}
use Rattle.sci.specs.declared.framer.Framer.{Framer}

-- Two ones or three are the majority; with one or two a sample disagrees.
pub voted : (a b c : Bool) →
    ◌≡◌ {A = Voted} (record { bit = leb 2 (ones_of a b c); disagreed = (ones_of a b c + 1) / 2 % 2 }) (vote a b c)
voted true true true = refl
voted true true false = refl
voted true false true = refl
voted true false false = refl
voted false true true = refl
voted false true false = refl
voted false false true = refl
voted false false false = refl

-- The bit alone.
pub by_ones : (a b c : Bool) → (vote a b c).bit ≡ leb 2 (ones_of a b c)
by_ones a b c = sym (ap (λ (v : Voted). v.bit) (voted a b c))

-- A start bit that stands has at most a single one at RT3, RT5 and RT7, which disagrees.
pub judged_ones : (a b c : Bool) (f : Framer) → judged (majority a b c) f (disagreed a b c) ≡ judged (majority a b c) f (ones_of a b c)
judged_ones true true true f = refl
judged_ones true true false f = refl
judged_ones true false true f = refl
judged_ones true false false f = refl
judged_ones false true true f = refl
judged_ones false true false f = refl
judged_ones false false true f = refl
judged_ones false false false f = refl

pub digit_small : (a : Bool) → digit a ≤ 1
digit_small true = omega arith
digit_small false = omega arith

-- At most one of three disagrees.
pub disagreed_small : (a b c : Bool) → disagreed a b c ≤ 1
disagreed_small true true true = omega arith
disagreed_small true true false = omega arith
disagreed_small true false true = omega arith
disagreed_small true false false = omega arith
disagreed_small false true true = omega arith
disagreed_small false true false = omega arith
disagreed_small false false true = omega arith
disagreed_small false false false = omega arith
