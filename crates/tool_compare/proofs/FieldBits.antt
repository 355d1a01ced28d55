-- The bits of a sum are those of the differing fields. Assumes nothing.
use mathlib.Core.Path.{◌≡◌, refl, ap}
use mathlib.Core.Bool.{Bool, true, false, cond}
use mathlib.Core.List.{List, [], ◌∷◌}
use Prim.Native.Nat.{ℕ, zero, suc, ◌+◌, ◌*◌, ◌/◌, ◌%◌, ◌^◌, ◌<◌, ◌≤◌}
use native.Mathlib.Nat.{div-div-eq-div-mul, pow-succ', add-mul}
use native.Mathlib.Omega.{arith}
use lib.ListN.{length, take, drop}
use lib.Seq.{drop-drop}
use Rattle.answers.specs.Answer.{stride}
use Rattle.tool_compare.specs.Answer.{same, weighed, sum_of}
use Rattle.tool_compare.specs.Laws.{field}
use Rattle.tool_compare.proofs.Alike.{same_equal, same_other}

twice : (alike : Bool) (w : ℕ) → cond alike 0 (w * 2) ≡ cond alike 0 w * 2
twice true w = refl
twice false w = refl

doubled : (fs : List ℕ) (w : ℕ) (x y : List ℕ) → weighed (w * 2) fs x y ≡ weighed w fs x y * 2
unfolding weighed
doubled [] w x y = refl
doubled (n ∷ ns) w x y =
    rw (add-mul, twice (same (take n x) (take n y)) w, doubled ns (w * 2) (drop n x) (drop n y))

-- The first field's bit, and the sum of the rest.
split : (n : ℕ) (ns x y : List ℕ) → sum_of (n ∷ ns) x y ≡ cond (same (take n x) (take n y)) 0 1 + sum_of ns (drop n x) (drop n y) * 2
unfolding weighed
split n ns x y = ap (λ (m : ℕ). cond (same (take n x) (take n y)) 0 1 + m) (doubled ns 1 (drop n x) (drop n y))

small : (alike : Bool) → cond alike 0 1 ≤ 1
small true = omega arith
small false = omega arith

pub sum_below : (fs x y : List ℕ) → sum_of fs x y < 2 ^ length fs
unfolding weighed
sum_below [] x y = omega arith
sum_below (n ∷ ns) x y =
    let s = split n ns x y in
    omega (arith, s, small (same (take n x) (take n y)), sum_below ns (drop n x) (drop n y), pow-succ' 2 (length ns))

-- Bit f of a sum is whether field f differs.
bit_of : (fs x y : List ℕ) (f : ℕ) → f < length fs → sum_of fs x y / 2 ^ f % 2 ≡ cond (same (field fs x f) (field fs y f)) 0 1
bit_of [] x y f h = absurd (omega arith)
bit_of (n ∷ ns) x y zero h = omega (arith, split n ns x y, small (same (take n x) (take n y)))
bit_of (n ∷ ns) x y (suc f) h =
    let half : sum_of (n ∷ ns) x y / 2 ≡ sum_of ns (drop n x) (drop n y) = omega (arith, split n ns x y, small (same (take n x) (take n y))) in
    rw (pow-succ' 2 f, ← div-div-eq-div-mul, half, ← drop-drop (stride (take f ns)) n x, ← drop-drop (stride (take f ns)) n y)
    (bit_of ns (drop n x) (drop n y) f (omega arith))

module _ (fs x y : List ℕ) (f : ℕ) (inside : f < length fs) where
  by_test : (t : Bool) → same (field fs x f) (field fs y f) ≡ t
      → (◌≡◌ {A = ℕ} (cond t 0 1) 0 → field fs x f ≡ field fs y f) × (◌≡◌ {A = ℕ} (cond t 0 1) 1 → field fs x f ≡ field fs y f → ⊥)
  by_test true e = (λ z. same_equal _ _ e, λ z q. omega arith)
  by_test false e = (λ z. absurd (omega arith), λ z. same_other _ _ e)

  pub bit_tells : (sum_of fs x y / 2 ^ f % 2 ≡ 0 → field fs x f ≡ field fs y f) × (sum_of fs x y / 2 ^ f % 2 ≡ 1 → field fs x f ≡ field fs y f → ⊥)
  bit_tells = rw (bit_of fs x y f inside) (by_test (same (field fs x f) (field fs y f)) refl)
