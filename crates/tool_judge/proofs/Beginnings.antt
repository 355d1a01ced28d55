-- With how many bytes two lists begin alike: the steps of the loop that compares them, and lists that are put together. Assumes nothing.
use mathlib.Core.Path.{◌≡◌, refl, ap}
use mathlib.Core.Bool.{Bool, true, false, cond}
use mathlib.Core.List.{List, [], ◌∷◌, ◌++◌}
use Prim.Native.Nat.{ℕ, suc, ◌+◌, ◌<◌, ◌≤◌, min}
use native.Mathlib.Numerals.{add-one}
use native.Mathlib.Omega.{arith}
use lib.Dec.{eqb, ltb}
use lib.ListN.{length, get_or, take, drop, drop_of_length-le}
use lib.Seq.{drop-cons}
use borrow.Author.Tests.{eq-eqb, ne_eqb, eqb-true, ltb-true, ltb-false}
use Rattle.tool_judge.specs.Verdict.{alike}

pub alike_none : (x : List ℕ) → alike x [] ≡ 0
unfolding alike
alike_none [] = refl
alike_none (a ∷ x) = refl

-- One byte further, a byte that differs, and the ends.
module _ (x y : List ℕ) (i : ℕ) where
  pub further : i < length x → i < length y → get_or x i 0 ≡ get_or y i 0 → i + alike (drop i x) (drop i y) ≡ i + 1 + alike (drop (i + 1) x) (drop (i + 1) y)
  unfolding alike
  further p q e = rw (drop-cons x i 0 p, drop-cons y i 0 q, eq-eqb (get_or x i 0) (get_or y i 0) e, add-one i) (omega arith)

  pub stops : i < length x → i < length y → (get_or x i 0 ≡ get_or y i 0 → ⊥) → i + alike (drop i x) (drop i y) ≡ i
  unfolding alike
  stops p q ne = rw (drop-cons x i 0 p, drop-cons y i 0 q, ne_eqb (get_or x i 0) (get_or y i 0) ne) (omega arith)

  pub ends : length x ≤ i → i + alike (drop i x) (drop i y) ≡ i
  unfolding alike
  ends p = rw (drop_of_length-le x p) (omega arith)

  pub ends_other : length y ≤ i → i + alike (drop i x) (drop i y) ≡ i
  ends_other p = rw (drop_of_length-le y p, alike_none (drop i x)) (omega arith)

  pub ends_both : min (length x) (length y) ≤ i → i + alike (drop i x) (drop i y) ≡ i
  ends_both p = go (ltb i (length x)) refl
    where
      go : (t : Bool) → ltb i (length x) ≡ t → i + alike (drop i x) (drop i y) ≡ i
      go true e = ends_other (let h = ltb-true i (length x) e in omega arith)
      go false e = ends (ltb-false i (length x) e)

-- ---- bounds

pub alike_left : (x y : List ℕ) → alike x y ≤ length x
unfolding alike
alike_left [] y = omega arith
alike_left (a ∷ x) [] = omega arith
alike_left (a ∷ x) (b ∷ y) = go (eqb a b) (alike_left x y)
  where
    go : (t : Bool) → alike x y ≤ length x → cond t (suc (alike x y)) 0 ≤ suc (length x)
    go true h = omega arith
    go false h = omega arith

pub alike_right : (x y : List ℕ) → alike x y ≤ length y
unfolding alike
alike_right [] y = omega arith
alike_right (a ∷ x) [] = omega arith
alike_right (a ∷ x) (b ∷ y) = go (eqb a b) (alike_right x y)
  where
    go : (t : Bool) → alike x y ≤ length y → cond t (suc (alike x y)) 0 ≤ suc (length y)
    go true h = omega arith
    go false h = omega arith

-- ---- lists put together

-- Where they differ before the end of x, what follows x doesn't matter.
pub alike_front : (x x' y : List ℕ) → alike x y < length x → alike (x ++ x') y ≡ alike x y
unfolding alike
alike_front [] x' y h = absurd (omega arith)
alike_front (a ∷ x) x' [] h = refl
alike_front (a ∷ x) x' (b ∷ y) h = go (eqb a b) (alike_front x x' y) h
  where
    go : (t : Bool) → (alike x y < length x → alike (x ++ x') y ≡ alike x y) → cond t (suc (alike x y)) 0 < suc (length x) → cond t (suc (alike (x ++ x') y)) 0 ≡ cond t (suc (alike x y)) 0
    go true rest less = ap suc (rest (omega arith))
    go false rest less = refl

-- Where y begins with x, the rests count on.
pub alike_past : (x x' y : List ℕ) → alike x y ≡ length x → alike (x ++ x') y ≡ length x + alike x' (drop (length x) y)
unfolding alike
alike_past [] x' y h = omega arith
alike_past (a ∷ x) x' [] h = absurd (omega (arith, h))
alike_past (a ∷ x) x' (b ∷ y) h = go (eqb a b) (alike_past x x' y) h
  where
    go : (t : Bool) → (alike x y ≡ length x → alike (x ++ x') y ≡ length x + alike x' (drop (length x) y)) → cond t (suc (alike x y)) 0 ≡ suc (length x) → cond t (suc (alike (x ++ x') y)) 0 ≡ suc (length x) + alike x' (drop (length x) y)
    go true rest all = let next = rest (omega arith) in omega (arith, next)
    go false rest all = absurd (omega (arith, all))

-- Only the bytes up to the length of x are looked at.
pub alike_take : (x y : List ℕ) → alike x (take (length x) y) ≡ alike x y
unfolding alike
alike_take [] y = refl
alike_take (a ∷ x) [] = refl
alike_take (a ∷ x) (b ∷ y) = ap (λ (k : ℕ). cond (eqb a b) (suc k) 0) (alike_take x y)

pub alike_self : (x : List ℕ) → alike x x ≡ length x
unfolding alike
alike_self [] = refl
alike_self (a ∷ x) = rw (eq-eqb a a refl) (ap suc (alike_self x))

-- Lists that are alike to both ends are equal.
pub alike_equal : (x y : List ℕ) → alike x y ≡ length x → alike x y ≡ length y → x ≡ y
unfolding alike
alike_equal [] [] p q = refl
alike_equal [] (b ∷ y) p q = absurd (omega (arith, q))
alike_equal (a ∷ x) [] p q = absurd (omega (arith, p))
alike_equal (a ∷ x) (b ∷ y) p q = go (eqb a b) (alike_equal x y) refl p q
  where
    go : (t : Bool) → (alike x y ≡ length x → alike x y ≡ length y → x ≡ y) → eqb a b ≡ t → cond t (suc (alike x y)) 0 ≡ suc (length x) → cond t (suc (alike x y)) 0 ≡ suc (length y) → a ∷ x ≡ b ∷ y
    go true rest e p q = rw (eqb-true a b e, rest (omega arith) (omega arith))
    go false rest e p q = absurd (omega (arith, p))
