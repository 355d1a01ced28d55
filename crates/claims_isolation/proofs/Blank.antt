-- A list with the words at some places blanked. Assumes nothing.
use mathlib.Core.Path.{◌≡◌, refl, ap, ◌∙◌}
use mathlib.Core.Bool.{Bool, true, false, cond}
use mathlib.Core.List.{List, [], ◌∷◌}
use Prim.Native.Nat.{ℕ, zero, suc}
use lib.ListN.{get_or, set}
use lib.Seq.{set-get_or}

abbrev pub blank : (ℕ → Bool) → List ℕ → List ℕ
blank here [] = []
blank here (x ∷ xs) = cond (here 0) 0 x ∷ blank (λ i. here (suc i)) xs

pub zero_either : (b : Bool) → ◌≡◌ {A = ℕ} (cond b 0 0) 0
zero_either true = refl
zero_either false = refl

pub cond_twice : (b : Bool) (x : ℕ) → cond b 0 (cond b 0 x) ≡ cond b 0 x
cond_twice true x = refl
cond_twice false x = refl

pub blank_twice : (here : ℕ → Bool) (l : List ℕ) → blank here (blank here l) ≡ blank here l
blank_twice here [] = refl
blank_twice here (x ∷ xs) = rw (cond_twice (here 0) x, blank_twice (λ i. here (suc i)) xs)

pub blank_set : (here : ℕ → Bool) (l : List ℕ) (i v : ℕ) → blank here (set l i v) ≡ set (blank here l) i (cond (here i) 0 v)
blank_set here [] i v = refl
blank_set here (x ∷ xs) zero v = refl
blank_set here (x ∷ xs) (suc i) v = ap (λ r. cond (here 0) 0 x ∷ r) (blank_set (λ k. here (suc k)) xs i v)

pub blank_get : (here : ℕ → Bool) (l : List ℕ) (i : ℕ) → get_or (blank here l) i 0 ≡ cond (here i) 0 (get_or l i 0)
blank_get here [] i = rw (zero_either (here i))
blank_get here (x ∷ xs) zero = refl
blank_get here (x ∷ xs) (suc i) = blank_get (λ k. here (suc k)) xs i

-- A blanked word set.
pub blank_own : (here : ℕ → Bool) (l : List ℕ) (i v : ℕ) → here i ≡ true → blank here (set l i v) ≡ blank here l
blank_own here l i v own =
    let nothing : get_or (blank here l) i 0 ≡ 0 = rw own at (blank_get here l i) in
    blank_set here l i v ∙ rw (own, ← nothing) (set-get_or (blank here l) i 0)
