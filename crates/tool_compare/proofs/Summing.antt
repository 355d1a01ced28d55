-- The sum for the differing fields, field by field. Assumes nothing.
use mathlib.Core.Path.{◌≡◌, refl, sym, ap, ◌∙◌}
use mathlib.Core.Bool.{Bool, true, false, cond}
use mathlib.Core.List.{List, ◌∷◌}
use Prim.Native.Nat.{ℕ, ◌+◌, ◌-◌, ◌*◌, ◌^◌, ◌<◌, ◌≤◌}
use native.Mathlib.Omega.{arith}
use native.Mathlib.Nat.{add_assoc, add-zero, zero-add, pow-suc, pow-le-pow_right}
use native.Mathlib.Numerals.{add-one}
use lib.ListN.{length, get_or, take, drop, length-take, drop_of_length-le}
use lib.Seq.{drop-cons, drop-drop, get_or-take}
use Rattle.answers.specs.Answer.{fields, stride}
use Rattle.tool_compare.specs.Answer.{same, weighed, sum_of}

-- The loop at field f of n: the fields before it are in the sum.
pub record Summing (n : ℕ) (x y : List ℕ) (sum weight start f : ℕ) : Type 0 where
  pub few : n ≤ 8
  pub inside : f ≤ n
  pub within : start + stride (drop f (take n fields)) ≤ length x
  pub weight_is : weight ≡ 2 ^ f
  pub below : sum < weight
  pub rest : sum_of (take n fields) x y ≡ sum + weighed weight (drop f (take n fields)) (drop start x) (drop start y)

pub summing_starts : (n : ℕ) (x y : List ℕ) → n ≤ 8 → stride (take n fields) ≤ length x → Summing n x y 0 1 0 0
summing_starts n x y few long =
    record {
      few = few;
      inside = omega arith;
      within = omega arith;
      weight_is = refl;
      below = omega arith;
      rest = rw zero-add;
    }

at_most : (alike : Bool) (weight : ℕ) → cond alike 0 weight ≤ weight
at_most true weight = omega arith
at_most false weight = omega arith

module _ {n : ℕ} {x y : List ℕ} {sum weight start f : ℕ} (s : Summing n x y sum weight start f) where
  pub summed : n ≤ f → sum ≡ sum_of (take n fields) x y
  unfolding weighed
  summed h =
      let all : length (take n fields) ≤ f = simp length-take (omega arith) in
      rw (s.rest, drop_of_length-le (take n fields) all, add-zero)

  module _ (lt : f < n) where
    head : drop f (take n fields) ≡ get_or fields f 0 ∷ drop (f + 1) (take n fields)
    head =
        let there : f < length (take n fields) = simp length-take (omega (arith, s.few)) in
        drop-cons (take n fields) f 0 there ∙ rw (add-one f, get_or-take n fields f 0 lt)

    pub size_within : start + get_or fields f 0 + stride (drop (f + 1) (take n fields)) ≤ length x
    size_within = omega (arith, ap stride head, s.within)

    pub weight_small : weight ≤ 128
    weight_small =
        let h : 2 ^ f ≤ 2 ^ 7 = pow-le-pow_right {n = 2} (omega arith) {i = f} {j = 7} (omega (arith, s.few)) in
        omega (arith, h, s.weight_is)

    -- What `same` gave of the parts that were lent, and what that adds.
    module _ {alike : Bool} {r : ℕ}
        (alike_is : alike ≡ same (take (start + get_or fields f 0 - start) (drop start x)) (take (start + get_or fields f 0 - start) (drop start y)))
        (r-is : r ≡ cond alike 0 weight) where
      adds : weighed weight (drop f (take n fields)) (drop start x) (drop start y)
          ≡ r + weighed (weight * 2) (drop (f + 1) (take n fields)) (drop (start + get_or fields f 0) x) (drop (start + get_or fields f 0) y)
      unfolding weighed
      adds =
          let size : start + get_or fields f 0 - start ≡ get_or fields f 0 = omega arith in
          rw (head, r-is, alike_is, size, drop-drop (get_or fields f 0) start x, drop-drop (get_or fields f 0) start y)

      pub small : r ≤ weight
      small = rw r-is (at_most alike weight)

      pub sums : Summing n x y (sum + r) (weight * 2) (start + get_or fields f 0) (f + 1)
      sums =
          record {
            few = s.few;
            inside = omega arith;
            within = size_within;
            weight_is = rw (add-one f, pow-suc, s.weight_is);
            below = omega (arith, s.below, small);
            rest = s.rest ∙ ap (λ (m : ℕ). sum + m) adds ∙ sym (add_assoc _ _ _);
          }
