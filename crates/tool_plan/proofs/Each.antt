-- What holds of each number below n, and the parts of a conjunction. Assumes nothing.
use mathlib.Core.Path.{◌≡◌, refl, sym, subst}
use mathlib.Core.Bool.{Bool, true, false, ◌&&◌}
use Prim.Native.Nat.{ℕ, zero, suc, ◌<◌}
use native.Mathlib.Omega.{arith}
use lib.Dec.{eqb}
use borrow.Author.Tests.{eqb-true, eqb-false}
use Rattle.qsm.proofs.Booleans.{both, clash, on}
use Rattle.tool_plan.specs.Check.{each}

pub left : (a b : Bool) → a && b ≡ true → a ≡ true
left true b h = refl
left false b h = h

pub right : (a b : Bool) → a && b ≡ true → b ≡ true
right true b h = h
right false b h = clash false refl h

pub each_at : (n : ℕ) (f : ℕ → Bool) → each n f ≡ true → (k : ℕ) → k < n → f k ≡ true
unfolding each
each_at zero f h k less = absurd (omega arith)
each_at (suc n) f h k less =
    on (eqb k n) (λ e. subst (λ i. f i ≡ true) (sym (eqb-true k n e)) (right (each n f) (f n) h))
    (λ e. let other : k ≡ n → ⊥ = eqb-false k n e in each_at n f (left (each n f) (f n) h) k (omega arith))

pub each_all : (n : ℕ) (f : ℕ → Bool) → ((k : ℕ) → k < n → f k ≡ true) → each n f ≡ true
unfolding each
each_all zero f h = refl
each_all (suc n) f h = both (each n f) (f n) (each_all n f (λ k less. h k (omega arith))) (h n (omega arith))
