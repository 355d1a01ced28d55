-- The first of a row of numbers that is so: those that are not are passed, and one that is ends it. Assumes nothing.
use mathlib.Core.Bool.{Bool, true, false}
use mathlib.Core.Path.{◌≡◌, sym, ap, ◌∙◌}
use Prim.Native.Nat.{ℕ, zero, suc, ◌+◌, ◌<◌}
use native.Mathlib.Omega.{arith}
use Rattle.std.specs.Prelude.{Some, None}
use Rattle.until_change.specs.Change.{first_of}

pub found : (p : ℕ → Bool) (r n : ℕ) → p n ≡ true → first_of p (suc r) n ≡ Some n
unfolding first_of
found p r n h = rw h

pub passes : (p : ℕ → Bool) (k r n : ℕ) → ((j : ℕ) → j < k → p (n + j) ≡ false) → first_of p (k + r) n ≡ first_of p r (n + k)
unfolding first_of
passes p zero r n h =
    let none : zero + r ≡ r = omega arith in
    let here : n ≡ n + zero = omega arith in
    ap (λ (k : ℕ). first_of p k n) none ∙ ap (first_of p r) here
passes p (suc k) r n h =
    let one : suc k + r ≡ suc (k + r) = omega arith in
    let here : n + 0 ≡ n = omega arith in
    let first : p n ≡ false = sym (ap p here) ∙ h 0 (omega arith) in
    let on : n + 1 + k ≡ n + suc k = omega arith in
    ap (λ (i : ℕ). first_of p i n) one
    ∙ (rw first)
    ∙ passes p k r (n + 1) (λ j l. ap p (moved j) ∙ h (suc j) (omega arith))
    ∙ ap (first_of p r) on
  where
    moved : (j : ℕ) → n + 1 + j ≡ n + suc j
    moved j = omega arith

pub nothing : (p : ℕ → Bool) (k n : ℕ) → ((j : ℕ) → j < k → p (n + j) ≡ false) → first_of p k n ≡ None
unfolding first_of
nothing p k n h =
    let whole : k ≡ k + zero = omega arith in
    ap (λ (i : ℕ). first_of p i n) whole ∙ passes p k zero n h
