-- What a comparison that is not refused tells, from the laws of its numbers and sums. Assumes nothing.
use mathlib.Core.Path.{◌≡◌, refl, ap, ◌∙◌}
use mathlib.Core.Bool.{Bool, true, false, cond}
use mathlib.Core.List.{List, [], ◌∷◌, ◌++◌}
use Prim.Native.Nat.{ℕ, zero, suc, ◌<◌}
use native.Mathlib.Omega.{arith}
use lib.Dec.{ltb}
use lib.ListN.{length, get_or, take, drop, take-append-drop}
use borrow.Author.Tests.{ltb-true, ltb-false}
use Rattle.answers.specs.Answer.{stride}
use Rattle.tool_compare.specs.Answer.{sum_of}
use Rattle.tool_compare.specs.Compare.{answer, common_end, common, reported, compared}
use Rattle.tool_compare.specs.Laws.{Tells}
use Rattle.tool_compare.proofs.Accepted.{others, Accepted, accepted, sums_of, numbers_are, sums_are}
use Rattle.tool_compare.proofs.Found.{found}
use Rattle.tool_compare.proofs.FieldBits.{sum_below, bit_tells}
use Rattle.tool_compare.proofs.Equal.{none_differ, no_surplus, same_logs}

-- The stretch of the longer log, by which that is.
stretches : (a b : List ℕ) (t : Bool) → ltb (length a) (length b) ≡ t
    → (take (common_end a b) (cond t b a) ++ cond t (drop (length a) b) (drop (length b) a) ≡ cond t b a) × (common_end a b ≡ length (cond t a b))
stretches a b true e =
    let h : common_end a b ≡ length a = omega (arith, ltb-true (length a) (length b) e) in
    (rw h (take-append-drop (length a) b), h)
stretches a b false e =
    let h : common_end a b ≡ length b = omega (arith, ltb-false (length a) (length b) e) in
    (rw h (take-append-drop (length b) a), h)

module _ (fs a b : List ℕ) where
  pub sums_length : (ks : List ℕ) → length (sums_of fs a b ks) ≡ length ks
  sums_length [] = refl
  sums_length (k ∷ ks) = ap suc (sums_length ks)

  sum_at : (ks : List ℕ) (i : ℕ) → i < length ks
      → get_or (sums_of fs a b ks) i 0 ≡ sum_of fs (answer (stride fs) a (get_or ks i 0)) (answer (stride fs) b (get_or ks i 0))
  sum_at [] i h = absurd (omega arith)
  sum_at (k ∷ ks) zero h = refl
  sum_at (k ∷ ks) (suc i) h = sum_at ks i (omega arith)

  told : (lent : List ℕ) → 0 < stride fs → Accepted fs a b lent → Tells fs a b (reported fs a b lent (others fs a b))
  told lent pos acc =
      let ks = others fs a b in
      let f = found (stride fs) a b (common (stride fs) a b) in
      let ns = numbers_are fs a b lent ks in
      let ss = sums_are fs a b lent ks in
      record {
        equal = λ e. (rw (← e) (ap length (none_differ (stride fs) a (common (stride fs) a a))), rw (← e) (no_surplus a));
        only_equal = λ z s. same_logs (stride fs) a b pos acc.first z s;
        stretch = (stretches a b (ltb (length a) (length b)) refl).0;
        common_end_holds = (stretches a b (ltb (length a) (length b)) refl).1;
        counted = (ap length ns, ap length ss ∙ sums_length ks);
        differ = λ i h. rw ns (f.each i h);
        all = λ k h d. rw ns (f.every k h d);
        in_order = λ i j lt h. rw ns (f.rising i j lt h);
        same_field = λ i g h inside. rw (ns, ss, sum_at ks i h) (bit_tells fs (answer (stride fs) a (get_or ks i 0)) (answer (stride fs) b (get_or ks i 0)) g inside).0;
        other_field = λ i g h inside. rw (ns, ss, sum_at ks i h) (bit_tells fs (answer (stride fs) a (get_or ks i 0)) (answer (stride fs) b (get_or ks i 0)) g inside).1;
        no_other_bit = λ i h. rw (ss, sum_at ks i h) (sum_below fs (answer (stride fs) a (get_or ks i 0)) (answer (stride fs) b (get_or ks i 0)));
      }

pub tells_by_fields : (fs a b lent : List ℕ) → 0 < stride fs → (compared fs a b lent).refusal ≡ 0 → Tells fs a b (compared fs a b lent)
tells_by_fields fs a b lent pos z = let acc = accepted fs a b lent z in rw acc.is (told fs a b lent pos acc)
