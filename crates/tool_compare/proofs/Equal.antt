-- Two logs are equal exactly if no answer differs and there is no surplus. Assumes nothing.
use mathlib.Core.Path.{◌≡◌, refl, sym, ap, ◌∙◌}
use mathlib.Core.Bool.{Bool, true, false, cond}
use mathlib.Core.List.{List, [], append-nil}
use Prim.Native.Nat.{ℕ, zero, suc, ◌*◌, ◌/◌, ◌%◌, ◌<◌, ◌≤◌}
use native.Mathlib.Nat.{zero-mul, suc-mul, mod-eq-sub-div-mul, div-mul-le_self}
use native.Mathlib.Omega.{arith}
use lib.Dec.{ltb}
use lib.ListN.{length, take, drop, length-drop}
use lib.Seq.{take-add, take_all, drop-length}
use borrow.Author.Tests.{le-ltb, ltb-true, ltb-false}
use Rattle.tool_compare.specs.Answer.{same}
use Rattle.tool_compare.specs.Compare.{answer, differing, common, surplus_of}
use Rattle.tool_compare.proofs.Alike.{same_refl, same_equal, same_other}
use Rattle.tool_compare.proofs.Found.{found}

pub none_differ : (bytes : ℕ) (a : List ℕ) (n : ℕ) → differing bytes a a n ≡ []
unfolding differing
none_differ bytes a zero = refl
none_differ bytes a (suc n) = rw (same_refl (answer bytes a n), append-nil) (none_differ bytes a n)

pub no_surplus : (a : List ℕ) → surplus_of a a ≡ []
no_surplus a = rw (le-ltb (length a) (length a) (omega arith)) (drop-length a)

by_order : (a b : List ℕ) (t : Bool) → ltb (length a) (length b) ≡ t → cond t (drop (length a) b) (drop (length b) a) ≡ [] → length a ≡ length b
by_order a b true e z = absurd (omega (arith, ltb-true (length a) (length b) e, simp length-drop at (ap length z)))
by_order a b false e z = omega (arith, ltb-false (length a) (length b) e, simp length-drop at (ap length z))

as_long : (a b : List ℕ) → surplus_of a b ≡ [] → length a ≡ length b
as_long a b z = by_order a b (ltb (length a) (length b)) refl z

module _ (bytes : ℕ) (a b : List ℕ) where
  by_test : (k : ℕ) (t : Bool) → same (answer bytes a k) (answer bytes b k) ≡ t → ((answer bytes a k ≡ answer bytes b k → ⊥) → ⊥) → answer bytes a k ≡ answer bytes b k
  by_test k true e h = same_equal _ _ e
  by_test k false e h = absurd (h (same_other _ _ e))

  -- Answers that are none of the differing ones are equal, and so is what they make up.
  module _ (n : ℕ) (none : length (differing bytes a b n) ≡ 0) where
    equal_answer : (k : ℕ) → k < n → answer bytes a k ≡ answer bytes b k
    equal_answer k h =
        by_test k (same (answer bytes a k) (answer bytes b k)) refl
        (λ d. let f = (found bytes a b n).every k h d in omega (arith, f.1))

    equal_start : (k : ℕ) → k ≤ n → take (k * bytes) a ≡ take (k * bytes) b
    equal_start zero h = rw zero-mul
    equal_start (suc k) h =
        rw (suc-mul k bytes, take-add (k * bytes) bytes a, take-add (k * bytes) bytes b, equal_start k (omega arith), equal_answer k (omega arith))

  pub same_logs : 0 < bytes → length a % bytes ≡ 0 → length (differing bytes a b (common bytes a b)) ≡ 0 → surplus_of a b ≡ [] → a ≡ b
  same_logs pos whole none z =
      let e = as_long a b z in
      let n = common bytes a b in
      let n_is : n ≡ length a / bytes = rw e (omega arith) in
      let all : n * bytes ≡ length a = rw n_is (omega (arith, mod-eq-sub-div-mul (length a) bytes, div-mul-le_self (length a) bytes)) in
      sym (take_all (n * bytes) a (omega arith)) ∙ equal_start n none n (omega arith) ∙ take_all (n * bytes) b (omega arith)
