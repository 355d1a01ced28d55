-- What a comparison leaves of its list, and the logs exchanged. Assumes nothing.
use mathlib.Core.Path.{◌≡◌, refl, sym, ◌∙◌}
use mathlib.Core.Bool.{Bool, true, false, cond, ◌||◌, or_comm}
use mathlib.Core.List.{List, [], ◌∷◌}
use Prim.Native.Nat.{ℕ, zero, suc, ◌*◌, ◌/◌, ◌≤◌}
use native.Mathlib.Nat.{min_comm}
use native.Mathlib.Omega.{arith}
use lib.Dec.{ltb}
use lib.ListN.{length, take, drop, length-append, length-drop}
use borrow.Author.Tests.{le-ltb, ltb-true, ltb-false}
use Rattle.answers.specs.Answer.{stride}
use Rattle.tool_compare.specs.Answer.{weighed}
use Rattle.tool_compare.specs.Compare.{answer, differing, listed, common, cut, surplus_of, refused, reported, compared}
use Rattle.tool_compare.specs.Laws.{Leaves, Alike}
use Rattle.tool_compare.proofs.Alike.{same_sym}
use Rattle.tool_compare.proofs.Listing.{listed_length}
use Rattle.tool_compare.proofs.Accepted.{others, rest_is}
use Rattle.tool_compare.proofs.Parts.{surplus_second}

module _ (fs a b lent : List ℕ) where
  pub of_refused : (why : ℕ) → Leaves lent (refused a b lent why)
  of_refused why = record { long = refl; past = refl; refused = λ ne. (refl, refl, refl, refl) }

  of_reported : 2 * length (others fs a b) ≤ length lent → Leaves lent (reported fs a b lent (others fs a b))
  of_reported room =
      record {
        long = simp (length-append, length-drop, listed_length) (omega arith);
        past = rest_is fs a b lent (others fs a b);
        refused = λ ne. absurd (ne refl);
      }

  by_tests : (bad short : Bool) → ltb (length lent) (2 * length (others fs a b)) ≡ short
      → Leaves lent (cond bad (refused a b lent 6) (cond short (refused a b lent 7) (reported fs a b lent (others fs a b))))
  by_tests true short e = of_refused 6
  by_tests false true e = of_refused 7
  by_tests false false e = of_reported (ltb-false _ _ e)

pub leaves_by_fields : (fs a b lent : List ℕ) → Leaves lent (compared fs a b lent)
unfolding compared
leaves_by_fields fs a b lent =
    by_tests fs a b lent (cut (stride fs) a || cut (stride fs) b) (ltb (length lent) (2 * length (others fs a b))) refl

-- Exchanged, the test, the sum, the numbers and the surplus are the same.
weighed_sym : (fs : List ℕ) (w : ℕ) (x y : List ℕ) → weighed w fs x y ≡ weighed w fs y x
unfolding weighed
weighed_sym [] w x y = refl
weighed_sym (n ∷ ns) w x y = rw (same_sym (take n x) (take n y), weighed_sym ns (w * 2) (drop n x) (drop n y))

differing_sym : (bytes : ℕ) (a b : List ℕ) (n : ℕ) → differing bytes a b n ≡ differing bytes b a n
unfolding differing
differing_sym bytes a b zero = refl
differing_sym bytes a b (suc n) = rw (same_sym (answer bytes a n) (answer bytes b n), differing_sym bytes a b n)

listed_sym : (fs a b ks : List ℕ) → listed fs a b ks ≡ listed fs b a ks
listed_sym fs a b [] = refl
listed_sym fs a b (k ∷ ks) = rw (weighed_sym fs 1 (answer (stride fs) a k) (answer (stride fs) b k), listed_sym fs a b ks)

by_order : (a b : List ℕ) (t : Bool) → ltb (length a) (length b) ≡ t → surplus_of a b ≡ surplus_of b a
by_order a b true e =
    let h = ltb-true (length a) (length b) e in
    surplus_second a b (omega arith) ∙ sym (rw (le-ltb (length b) (length a) (omega arith)))
by_order a b false e =
    let h = ltb-false (length a) (length b) e in
    rw e (sym (surplus_second b a h))

surplus_sym : (a b : List ℕ) → surplus_of a b ≡ surplus_of b a
surplus_sym a b = by_order a b (ltb (length a) (length b)) refl

module _ (fs a b lent : List ℕ) where
  others_sym : others fs a b ≡ others fs b a
  others_sym =
      rw (min_comm (length a / stride fs) (length b / stride fs)) (differing_sym (stride fs) a b (common (stride fs) b a))

  alike_by : (bad short : Bool) →
      Alike (cond bad (refused a b lent 6) (cond short (refused a b lent 7) (reported fs a b lent (others fs a b))))
      (cond bad (refused b a lent 6) (cond short (refused b a lent 7) (reported fs b a lent (others fs a b))))
  alike_by true short = record { list = refl; count = refl; refusal = refl; surplus = refl }
  alike_by false true = record { list = refl; count = refl; refusal = refl; surplus = refl }
  alike_by false false =
      record {
        list = rw (listed_sym fs a b (others fs a b));
        count = refl;
        refusal = refl;
        surplus = surplus_sym a b;
      }

pub alike_by_fields : (fs a b lent : List ℕ) → Alike (compared fs a b lent) (compared fs b a lent)
unfolding compared
alike_by_fields fs a b lent =
    rw (or_comm (cut (stride fs) b) (cut (stride fs) a), ← others_sym fs a b lent)
    (alike_by fs a b lent (cut (stride fs) a || cut (stride fs) b) (ltb (length lent) (2 * length (others fs a b))))
