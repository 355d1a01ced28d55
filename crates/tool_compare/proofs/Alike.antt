-- The test whether two lists are the same, and the steps of the loop that makes it. Assumes nothing.
use mathlib.Core.Path.{◌≡◌, refl, sym, ap, ◌∙◌}
use mathlib.Core.Bool.{Bool, true, false, ◌&&◌, false≢true}
use mathlib.Core.List.{List, [], ◌∷◌}
use Prim.Native.Nat.{ℕ, ◌+◌, ◌<◌, ◌≤◌}
use native.Mathlib.Numerals.{add-one}
use lib.Dec.{eqb}
use lib.ListN.{length, get_or, drop, drop_of_length-le}
use lib.Seq.{drop-cons}
use borrow.Author.Tests.{eq-eqb, ne_eqb, eqb-true, eqb-false}
use Rattle.tool_compare.specs.Answer.{same}

pub same_refl : (x : List ℕ) → same x x ≡ true
same_refl [] = refl
same_refl (a ∷ x) = rw (eq-eqb a a refl) (same_refl x)

pub both : (p q : Bool) → p && q ≡ true → (p ≡ true) × (q ≡ true)
both true q e = (refl, e)
both false q e = absurd (false≢true e)

-- What is found the same is equal.
pub same_equal : (x y : List ℕ) → same x y ≡ true → x ≡ y
same_equal [] [] e = refl
same_equal [] (b ∷ y) e = absurd (false≢true e)
same_equal (a ∷ x) [] e = absurd (false≢true e)
same_equal (a ∷ x) (b ∷ y) e =
    let h = both (eqb a b) (same x y) e in
    rw (eqb-true a b h.0, same_equal x y h.1)

pub same_other : (x y : List ℕ) → same x y ≡ false → x ≡ y → ⊥
same_other x y e q = false≢true (sym e ∙ ap (same x) (sym q) ∙ same_refl x)

eqb_sym : (a b : ℕ) (t : Bool) → eqb a b ≡ t → eqb b a ≡ t
eqb_sym a b true e = eq-eqb b a (sym (eqb-true a b e))
eqb_sym a b false e = ne_eqb b a (λ q. eqb-false a b e (sym q))

pub same_sym : (x y : List ℕ) → same x y ≡ same y x
same_sym [] [] = refl
same_sym [] (b ∷ y) = refl
same_sym (a ∷ x) [] = refl
same_sym (a ∷ x) (b ∷ y) = rw (same_sym x y, eqb_sym a b (eqb a b) refl)

-- One byte further, a byte that differs, and the end.
module _ (x y : List ℕ) (i : ℕ) where
  pub further : i < length x → i < length y → get_or x i 0 ≡ get_or y i 0 → same (drop i x) (drop i y) ≡ same (drop (i + 1) x) (drop (i + 1) y)
  further p q e = rw (add-one i, drop-cons x i 0 p, drop-cons y i 0 q, eq-eqb (get_or x i 0) (get_or y i 0) e)

  pub stops : i < length x → i < length y → (get_or x i 0 ≡ get_or y i 0 → ⊥) → same (drop i x) (drop i y) ≡ false
  stops p q ne = rw (drop-cons x i 0 p, drop-cons y i 0 q, ne_eqb (get_or x i 0) (get_or y i 0) ne)

  pub ends : length x ≤ i → length y ≤ i → same (drop i x) (drop i y) ≡ true
  ends p q = rw (drop_of_length-le x p, drop_of_length-le y q)
