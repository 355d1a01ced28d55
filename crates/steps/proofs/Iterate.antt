-- A run of steps in two parts, its first step and its end, a step that changes nothing, and a run that comes back to where it began.
use Prim.Native.Nat.{ℕ, zero, suc, ◌+◌, ◌-◌, ◌*◌, ◌/◌, ◌%◌, ◌≤◌, ◌<◌}
use mathlib.Core.Path.{◌≡◌, refl, sym, ap, ◌∙◌}
use native.Mathlib.Nat.{add_comm, zero-mul, suc-mul, div-add-mod'}
use native.Mathlib.Omega.{arith}
use Rattle.steps.specs.Iterate.{iterate}

pub iterate_add : {A : Type 0} (a b : ℕ) (f : A → A) (x : A) → iterate (a + b) f x ≡ iterate a f (iterate b f x)
unfolding iterate
iterate_add zero b f x =
    let e : zero + b ≡ b = omega arith in
    ap (λ (n : ℕ). iterate n f x) e
iterate_add (suc a) b f x =
    let e : suc a + b ≡ suc (a + b) = omega arith in
    ap (λ (n : ℕ). iterate n f x) e ∙ ap f (iterate_add a b f x)

-- A step taken first is one of them.
pub one_first : {A : Type 0} (n k : ℕ) (f : A → A) (x : A) → k < n → iterate (n - (k + 1)) f (f x) ≡ iterate (n - k) f x
unfolding iterate
one_first n k f x less =
    let parts : n - (k + 1) + 1 ≡ n - k = omega arith in
    sym (iterate_add (n - (k + 1)) 1 f x) ∙ ap (λ (m : ℕ). iterate m f x) parts

-- None is left.
pub run_out : {A : Type 0} (n k : ℕ) (f : A → A) (x : A) → n ≤ k → iterate (n - k) f x ≡ x
unfolding iterate
run_out n k f x over =
    let none : n - k ≡ 0 = omega arith in
    ap (λ (m : ℕ). iterate m f x) none

-- A fixed point stays.
pub iterate_fixed : {A : Type 0} (n : ℕ) (f : A → A) (s : A) → f s ≡ s → iterate n f s ≡ s
unfolding iterate
iterate_fixed zero f s h = refl
iterate_fixed (suc n) f s h = ap f (iterate_fixed n f s h) ∙ h

-- Whole periods, and a period taken out.
iterate_periods : {A : Type 0} (k p : ℕ) (f : A → A) (s : A) → iterate p f s ≡ s → iterate (k * p) f s ≡ s
unfolding iterate
iterate_periods zero p f s h = ap (λ (n : ℕ). iterate n f s) (zero-mul p)
iterate_periods (suc k) p f s h =
    ap (λ (n : ℕ). iterate n f s) (suc-mul k p)
    ∙ iterate_add (k * p) p f s
    ∙ ap (iterate (k * p) f) h
    ∙ iterate_periods k p f s h

pub iterate_period : {A : Type 0} (n p : ℕ) (f : A → A) (s : A) → 0 < p → iterate p f s ≡ s → iterate n f s ≡ iterate (n % p) f s
iterate_period n p f s _ h =
    ap (λ (m : ℕ). iterate m f s) (sym (div-add-mod' n p) ∙ add_comm (n / p * p) (n % p))
    ∙ iterate_add (n % p) (n / p * p) f s
    ∙ ap (iterate (n % p) f) (iterate_periods (n / p) p f s h)
