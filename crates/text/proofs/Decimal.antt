-- A decimal number by its last digit and those before it; its digits give it back. Assumes nothing.
use mathlib.Core.Path.{◌≡◌, refl}
use mathlib.Core.Bool.{Bool, true, false}
use mathlib.Core.List.{List, [], ◌∷◌, ◌++◌}
use Prim.Native.Nat.{ℕ, zero, suc, ◌+◌, ◌-◌, ◌*◌, ◌/◌, ◌^◌, ◌<◌, ◌≤◌}
use native.Mathlib.Nat.{pow-suc}
use native.Mathlib.Omega.{arith}
use lib.Dec.{ltb}
use borrow.Author.Tests.{lt-ltb, le-ltb, ltb-true, ltb-false}
use Rattle.text.specs.Digits.{decimal, decimal_digit}
use Rattle.text.specs.Claims.{valued, DigitsGiveBack}

pub decimal_none : (n : ℕ) → decimal 0 n ≡ []
unfolding decimal
decimal_none n = refl

pub decimal_one : (digits n : ℕ) → 0 < digits → n < 10 → decimal digits n ≡ decimal_digit n ∷ []
unfolding decimal
decimal_one zero n pos h = absurd (omega arith)
decimal_one (suc digits) n pos h = rw (lt-ltb n 10 h)

pub decimal_more : (digits n : ℕ) → 0 < digits → 10 ≤ n → decimal digits n ≡ decimal (digits - 1) (n / 10) ++ (decimal_digit n ∷ [])
unfolding decimal
decimal_more zero n pos h = absurd (omega arith)
decimal_more (suc digits) n pos h =
    let less : suc digits - 1 ≡ digits = omega arith in
    rw (le-ltb n 10 h, less)

-- ---- the digits give the number back

valued_append : (m : ℕ) (s : List ℕ) (d : ℕ) → valued m (s ++ (d ∷ [])) ≡ valued m s * 10 + (d - 48)
unfolding valued
valued_append m [] d = refl
valued_append m (b ∷ s) d = valued_append (m * 10 + (b - 48)) s d

valued_none : valued 0 [] ≡ 0
unfolding valued
valued_none = refl

-- One digit more, whether it is the first or not.
one_more : (digits n : ℕ) (first : Bool) → ltb n 10 ≡ first → valued 0 (decimal digits (n / 10)) ≡ n / 10
    → valued 0 (decimal (suc digits) n) ≡ n
one_more digits n true is before =
    let few : n < 10 = ltb-true n 10 is in
    rw (decimal_one (suc digits) n (omega arith) few, valued_append 0 [] (decimal_digit n), valued_none) (omega arith)
one_more digits n false is before =
    let many : 10 ≤ n = ltb-false n 10 is in
    let less : suc digits - 1 ≡ digits = omega arith in
    rw (decimal_more (suc digits) n (omega arith) many, valued_append, less, before) (omega arith)

pub digits_give_back : DigitsGiveBack
digits_give_back zero n h = rw (decimal_none, valued_none) (omega arith)
digits_give_back (suc digits) n h =
    let ten : 10 ^ suc digits ≡ 10 ^ digits * 10 = pow-suc 10 digits in
    one_more digits n (ltb n 10) refl (digits_give_back digits (n / 10) (omega arith))
