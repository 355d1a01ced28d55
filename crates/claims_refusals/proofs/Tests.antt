-- Cases of a number and of a Bool, and tests over all bytes up to one. Assumes nothing.
use mathlib.Core.Path.{◌≡◌, refl, sym, subst}
use mathlib.Core.Bool.{Bool, true, false, not, ◌&&◌, ◌||◌, true≢false}
use Prim.Native.Nat.{ℕ, zero, suc, ◌%◌, ◌<◌}
use native.Mathlib.Omega.{arith}
use lib.Dec.{eqb, ltb, leb}
use borrow.Author.Tests.{eqb-true, eqb-false, ltb-true, ltb-false, le-leb, lt-leb}

pub absurd_bool : {P : Type 0} → false ≡ true → P
absurd_bool h = absurd (true≢false (sym h))

on_bool : {P : Type 0} (b : Bool) (w k : ℕ) → eqb w k ≡ b → (w ≡ k → P) → (eqb w k ≡ false → P) → P
on_bool true w k is f g = f (eqb-true w k is)
on_bool false w k is f g = g is

-- A number is k or isn't.
pub split : {P : Type 0} (w k : ℕ) → (w ≡ k → P) → (eqb w k ≡ false → P) → P
split w k f g = on_bool (eqb w k) w k refl f g

-- The three widths, and any other.
pub widths : (P : ℕ → Type 0) (w : ℕ) → P 1 → P 2 → P 4
    → (eqb w 1 ≡ false → eqb w 2 ≡ false → eqb w 4 ≡ false → P w) → P w
widths P w one two four other =
    split w 1 (λ e. subst P (sym e) one) (λ a.
    split w 2 (λ e. subst P (sym e) two) (λ b.
    split w 4 (λ e. subst P (sym e) four) (λ c. other a b c)))

bit_odd : (x : ℕ) → x < 2 → eqb x 1 ≡ not (eqb x 0)
bit_odd zero h = refl
bit_odd (suc zero) h = refl
bit_odd (suc (suc x)) h = absurd (omega arith)

pub odd : (o : ℕ) → eqb (o % 2) 1 ≡ not (eqb (o % 2) 0)
odd o = bit_odd (o % 2) (omega arith)

pub even : (o : ℕ) → eqb (o % 2) 0 ≡ true → o % 2 ≡ 0
even o h = eqb-true (o % 2) 0 h

over : (b : Bool) (a v : ℕ) → ltb v a ≡ b → leb a v ≡ not b
over true a v is = lt-leb a v (ltb-true v a is)
over false a v is = le-leb a v (ltb-false v a is)

-- Not below is at or above.
pub at_or_above : (a v : ℕ) → leb a v ≡ not (ltb v a)
at_or_above a v = over (ltb v a) a v refl

-- Every number below n.
abbrev pub every : (ℕ → Bool) → ℕ → Bool
every f zero = true
every f (suc n) = f n && every f n

both : (a b : Bool) → a && b ≡ true → (a ≡ true) × (b ≡ true)
both true b h = (refl, h)
both false b h = absurd_bool h

pub every_at : (f : ℕ → Bool) (n : ℕ) → every f n ≡ true → (b : ℕ) → b < n → f b ≡ true
every_at f zero h b lt = absurd (omega arith)
every_at f (suc n) h b lt =
    split b n (λ e. subst (λ k. f k ≡ true) (sym e) (both (f n) (every f n) h).0)
    (λ other. every_at f n (both (f n) (every f n) h).1 b (below other))
  where
    below : eqb b n ≡ false → b < n
    below other = let ne : b ≡ n → ⊥ = eqb-false b n other in omega (arith, ne)

abbrev pub same : Bool → Bool → Bool
same true b = b
same false b = not b

pub same_eq : (a b : Bool) → same a b ≡ true → a ≡ b
same_eq true true h = refl
same_eq true false h = absurd_bool h
same_eq false true h = absurd_bool h
same_eq false false h = refl

pub or_true : (a : Bool) → a || true ≡ true
or_true true = refl
or_true false = refl
