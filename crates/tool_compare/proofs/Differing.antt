-- The numbers of the differing answers: how many, and the step that a pass takes at each answer. Assumes nothing.
use mathlib.Core.Path.{◌≡◌, ◌∙◌}
use mathlib.Core.Bool.{Bool, true, false, cond}
use mathlib.Core.List.{List, [], ◌∷◌, ◌++◌, append-nil}
use Prim.Native.Nat.{ℕ, zero, suc, ◌+◌, ◌-◌, ◌*◌, ◌<◌, ◌≤◌}
use native.Mathlib.Nat.{add-zero, add-suc, zero-mul, suc-mul, mul-le-mul_right}
use native.Mathlib.Numerals.{add-one}
use native.Mathlib.Omega.{arith}
use lib.ListN.{length, take, drop, length-append}
use Rattle.tool_compare.specs.Answer.{same}
use Rattle.tool_compare.specs.Compare.{answer, differing}

at_most_one : (k : ℕ) (alike : Bool) → length (cond {A = List ℕ} alike [] (k ∷ [])) ≤ 1
at_most_one k true = omega arith
at_most_one k false = omega arith

module _ (bytes : ℕ) (a b : List ℕ) where
  pub few : (n : ℕ) → length (differing bytes a b n) ≤ n
  unfolding differing
  few zero = omega arith
  few (suc n) = simp length-append (omega (arith, few n, at_most_one n (same (answer bytes a n) (answer bytes b n))))

  more : (i k : ℕ) → length (differing bytes a b i) ≤ length (differing bytes a b (i + k))
  unfolding differing
  more i zero = rw add-zero (omega arith)
  more i (suc k) = rw (add-suc, length-append) (omega (arith, more i k))

  pub fewer : (i n : ℕ) → i ≤ n → length (differing bytes a b i) ≤ length (differing bytes a b n)
  fewer i n h = let e : i + (n - i) ≡ n = omega arith in rw e at (more i (n - i))

-- A pass over n answers, at answer i, which begins at byte `at`.
pub record Passing (bytes : ℕ) (a b : List ℕ) (n at i : ℕ) : Type 0 where
  pub first : n * bytes ≤ length a
  pub second : n * bytes ≤ length b
  pub inside : i ≤ n
  pub at_is : at ≡ i * bytes

pub passing_starts : (bytes : ℕ) (a b : List ℕ) (n : ℕ) → n * bytes ≤ length a → n * bytes ≤ length b → Passing bytes a b n 0 0
passing_starts bytes a b n p q = record { first = p; second = q; inside = omega arith; at_is = rw zero-mul }

-- The answer that is lent.
pub part : (bytes : ℕ) (log : List ℕ) (at i : ℕ) → at ≡ i * bytes → take (at + bytes - at) (drop at log) ≡ answer bytes log i
part bytes log at i e = let size : at + bytes - at ≡ bytes = omega arith in rw (size, e)

module _ {bytes : ℕ} {a b : List ℕ} {n at i : ℕ} (p : Passing bytes a b n at i) (lt : i < n) where
  pub answers_within : (at + bytes ≤ length a) × (at + bytes ≤ length b)
  answers_within =
      let h : suc i * bytes ≤ n * bytes = mul-le-mul_right bytes (omega arith) in
      let e = suc-mul i bytes in
      (omega (arith, p.at_is, p.first), omega (arith, p.at_is, p.second))

  pub passes : Passing bytes a b n (at + bytes) (i + 1)
  passes =
      record {
        first = p.first;
        second = p.second;
        inside = omega arith;
        at_is = rw (add-one i, suc-mul, p.at_is);
      }

  -- What `same` gave of the answers that were lent.
  module _ {alike : Bool} (is : alike ≡ same (take (at + bytes - at) (drop at a)) (take (at + bytes - at) (drop at b))) where
    of_answers : alike ≡ same (answer bytes a i) (answer bytes b i)
    of_answers = is ∙ rw (part bytes a at i p.at_is, part bytes b at i p.at_is)

    pub skipped : alike ≡ true → differing bytes a b (i + 1) ≡ differing bytes a b i
    unfolding differing
    skipped e = rw (add-one i, ← of_answers, e) (append-nil (differing bytes a b i))

    pub counted : alike ≡ false → differing bytes a b (i + 1) ≡ differing bytes a b i ++ (i ∷ [])
    unfolding differing
    counted e = rw (add-one i, ← of_answers, e)

    pub counted_length : alike ≡ false → length (differing bytes a b (i + 1)) ≡ length (differing bytes a b i) + 1
    counted_length e = rw (counted e, length-append)
