-- A tally with one figure more. Assumes nothing.
use mathlib.Core.Path.{◌≡◌, ap, sym}
use mathlib.Core.List.{List, [], ◌∷◌, ◌++◌, append-nil}
use Prim.Native.Nat.{ℕ, ◌+◌, max}
use native.Mathlib.Omega.{arith}
use lib.Dec.{ltb}
use lib.ListN.{length, length-append}
use Rattle.std.specs.Prelude.{Some, None}
use Rattle.steps.specs.Bits.{digit}
use Rattle.reception.specs.Tally.{up_to, noisy, worst, tally_of, with_figure}
use Rattle.reception.specs.Claims.{TallyGoesOn}

noisy_more : (fs : List ℕ) (f : ℕ) → noisy (fs ++ (f ∷ [])) ≡ noisy fs + digit (ltb 0 f)
noisy_more [] f = omega arith
noisy_more (g ∷ fs) f = omega (arith, noisy_more fs f)

worst_more : (fs : List ℕ) (f : ℕ) → worst (fs ++ (f ∷ [])) ≡ max (worst fs) f
worst_more [] f = omega arith
worst_more (g ∷ fs) f = omega (arith, worst_more fs f)

capped : (n m k : ℕ) → k ≡ n + m → up_to (up_to n + m) ≡ up_to k
capped n m k e = omega (arith, e)

one_more : (fs : List ℕ) (f : ℕ) → with_figure (tally_of fs) f ≡ tally_of (fs ++ (f ∷ []))
one_more fs f =
    rw (
      capped (length fs) 1 (length (fs ++ (f ∷ []))) (length-append fs (f ∷ [])),
      capped (noisy fs) (digit (ltb 0 f)) (noisy (fs ++ (f ∷ []))) (noisy_more fs f),
      worst_more fs f,
    )

pub tally_goes_on : TallyGoesOn
tally_goes_on fs (Some f) = one_more fs f
tally_goes_on fs None = ap tally_of (sym (append-nil fs))
