-- What pieces of two logs give is what the whole gives. Assumes nothing.
use mathlib.Core.Path.{◌≡◌, refl, ap}
use mathlib.Core.Bool.{Bool, true, false, ◌||◌}
use mathlib.Core.List.{List, [], ◌++◌, map, append-nil}
use Prim.Native.Nat.{ℕ, ◌+◌, ◌*◌, ◌/◌, ◌%◌, ◌<◌, ◌≤◌}
use native.Mathlib.Nat.{mul-div_cancel, min-eq_left, div-add-mod', div-mul-le_self, le-div_iff_mul-le}
use native.Mathlib.Omega.{arith}
use lib.Dec.{ltb}
use lib.ListN.{length, get_or, length-append, length-map}
use Rattle.answers.specs.Answer.{stride}
use Rattle.tool_compare.specs.Compare.{common, cut, reported, compared}
use Rattle.tool_compare.specs.Pieces.{Joins, Longer}
use Rattle.tool_compare.proofs.Accepted.{others, Accepted, accepted, sums_of, numbers_are, sums_are}
use Rattle.tool_compare.proofs.Found.{found}
use Rattle.tool_compare.proofs.Ways.{common_within, enough}
use Rattle.tool_compare.proofs.Parts.{cut_more, whole_more, answers_more, differing_old, differing_new, common_more, sums_append, sums_old, sums_new, order_more, surplus_more, surplus_grows}

module _ (fs a b c d : List ℕ) (n : ℕ) (pos : 0 < stride fs) (first : length a ≡ n * stride fs) (second : length b ≡ n * stride fs) where
  -- The beginnings have n answers each.
  all_of : common (stride fs) a b ≡ n
  all_of = rw (first, second, mul-div_cancel n pos) (min-eq_left (omega arith))

  others_more : others fs (a ++ c) (b ++ d) ≡ others fs a b ++ map (λ (k : ℕ). n + k) (others fs c d)
  others_more =
      rw (common_more (stride fs) a b c d n first second pos, all_of) (differing_new (stride fs) a b c d n first second (common (stride fs) c d))

  inside : (i : ℕ) → i < length (others fs a b) → get_or (others fs a b) i 0 < n
  inside i h = omega (arith, all_of, ((found (stride fs) a b (common (stride fs) a b)).each i h).0)

  sums_more : sums_of fs (a ++ c) (b ++ d) (others fs (a ++ c) (b ++ d)) ≡ sums_of fs a b (others fs a b) ++ sums_of fs c d (others fs c d)
  sums_more =
      rw (others_more, sums_append, sums_old fs a b c d n (omega arith) (omega arith) (others fs a b) inside, sums_new fs a b c d n first second (others fs c d))

  count_more : length (others fs (a ++ c) (b ++ d)) ≡ length (others fs a b) + length (others fs c d)
  count_more = rw (others_more, length-append, length-map)

  joined : (l m lent : List ℕ) → Accepted fs c d m → 2 * (length (others fs a b) + length (others fs c d)) ≤ length lent
      → Joins n (reported fs a b l (others fs a b)) (reported fs c d m (others fs c d)) (compared fs (a ++ c) (b ++ d) lent)
  joined l m lent q room =
      let one = whole_more (stride fs) a c n first q.first in
      let two = whole_more (stride fs) b d n second q.second in
      let is = enough fs (a ++ c) (b ++ d) lent {bytes = stride fs} refl one two refl refl (omega (arith, count_more)) in
      rw is
      (record {
        refusal = refl;
        count = count_more;
        numbers_are = rw (numbers_are fs (a ++ c) (b ++ d) lent (others fs (a ++ c) (b ++ d)), numbers_are fs a b l (others fs a b), numbers_are fs c d m (others fs c d)) others_more;
        sums_are = rw (sums_are fs (a ++ c) (b ++ d) lent (others fs (a ++ c) (b ++ d)), sums_are fs a b l (others fs a b), sums_are fs c d m (others fs c d)) sums_more;
        second = order_more a b c d (omega arith);
        surplus = surplus_more a b c d (omega arith);
      })

pub joins_by_fields : (fs a b c d l m lent : List ℕ) (n : ℕ) → 0 < stride fs → length a ≡ n * stride fs → length b ≡ n * stride fs
    → (compared fs a b l).refusal ≡ 0 → (compared fs c d m).refusal ≡ 0
    → 2 * ((compared fs a b l).count + (compared fs c d m).count) ≤ length lent
    → Joins n (compared fs a b l) (compared fs c d m) (compared fs (a ++ c) (b ++ d) lent)
joins_by_fields fs a b c d l m lent n pos first second p q room =
    let x = accepted fs a b l p in
    let y = accepted fs c d m q in
    let r = rw (x.is, y.is) at room in
    rw (x.is, y.is) (joined fs a b c d n pos first second l m lent y r)

module _ (fs c d m : List ℕ) where
  cut_by_tests : (bad short : Bool) → cut (stride fs) c || cut (stride fs) d ≡ bad → ltb (length m) (2 * length (others fs c d)) ≡ short
      → (compared fs c d m).refusal ≡ 6 → cut (stride fs) c || cut (stride fs) d ≡ true
  unfolding compared
  cut_by_tests true short e f z = e
  cut_by_tests false true e f z = absurd (let y = rw (e, f) at z in omega arith)
  cut_by_tests false false e f z = absurd (let y = rw (e, f) at z in omega arith)

  pub cut_tells : (compared fs c d m).refusal ≡ 6 → cut (stride fs) c || cut (stride fs) d ≡ true
  cut_tells z = cut_by_tests (cut (stride fs) c || cut (stride fs) d) (ltb (length m) (2 * length (others fs c d))) refl refl z

pub cut_by_fields : (fs a b c d m lent : List ℕ) (n : ℕ) → length a ≡ n * stride fs → length b ≡ n * stride fs
    → (compared fs c d m).refusal ≡ 6 → (compared fs (a ++ c) (b ++ d) lent).refusal ≡ 6
unfolding compared
cut_by_fields fs a b c d m lent n first second z =
    rw (cut_more (stride fs) a c n first, cut_more (stride fs) b d n second, cut_tells fs c d m z)

-- More of the second log.
module _ (fs a b c lent : List ℕ) (pos : 0 < stride fs) (shorter : length a ≤ length b) (whole : length c % stride fs ≡ 0) (acc : Accepted fs a b lent) where
  long : length b ≡ length b / stride fs * stride fs
  long = omega (arith, div-add-mod' (length b) (stride fs), acc.second)

  no_more : common (stride fs) a (b ++ c) ≡ common (stride fs) a b
  no_more =
      let h : length a / stride fs ≤ length b / stride fs = (le-div_iff_mul-le pos).1 (omega (arith, div-mul-le_self (length a) (stride fs))) in
      rw (answers_more (stride fs) b c (length b / stride fs) long pos) (omega arith)

  within : common (stride fs) a b * stride fs ≤ length a
  within = (common_within (stride fs) a b).0

  same_others : others fs a (b ++ c) ≡ others fs a b
  same_others = rw no_more (rw append-nil at (differing_old (stride fs) a b [] c (common (stride fs) a b) within (omega (arith, within))))

  same_sums : sums_of fs a (b ++ c) (others fs a b) ≡ sums_of fs a b (others fs a b)
  same_sums =
      rw append-nil at
      (sums_old fs a b [] c (common (stride fs) a b) within (omega (arith, within)) (others fs a b) (λ i h. ((found (stride fs) a b (common (stride fs) a b)).each i h).0))

  longer : Longer c (reported fs a b lent (others fs a b)) (compared fs a (b ++ c) lent)
  longer =
      let second = whole_more (stride fs) b c (length b / stride fs) long whole in
      let is = enough fs a (b ++ c) lent {bytes = stride fs} refl acc.first second refl refl (omega (arith, acc.room, ap length same_others)) in
      rw (is, same_others)
      (record {
        refusal = refl;
        count = refl;
        numbers_are = rw (numbers_are fs a (b ++ c) lent (others fs a b), numbers_are fs a b lent (others fs a b));
        sums_are = rw (sums_are fs a (b ++ c) lent (others fs a b), sums_are fs a b lent (others fs a b)) same_sums;
        surplus = surplus_grows a b c shorter;
      })

pub longer_by_fields : (fs a b c lent : List ℕ) → 0 < stride fs → length a ≤ length b → length c % stride fs ≡ 0
    → (compared fs a b lent).refusal ≡ 0 → Longer c (compared fs a b lent) (compared fs a (b ++ c) lent)
longer_by_fields fs a b c lent pos shorter whole z =
    let acc = accepted fs a b lent z in
    rw acc.is (longer fs a b c lent pos shorter whole acc)
