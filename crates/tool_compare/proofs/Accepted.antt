-- A comparison that is not refused: its tests, and what it reports. Assumes nothing.
use mathlib.Core.Path.{◌≡◌, refl, ap, ◌∙◌}
use mathlib.Core.Bool.{Bool, true, false, ◌||◌}
use mathlib.Core.List.{List, [], ◌∷◌, ◌++◌}
use Prim.Native.Nat.{ℕ, ◌*◌, ◌%◌, ◌≤◌}
use native.Mathlib.Omega.{arith}
use lib.Dec.{ltb}
use lib.ListN.{length, take, drop}
use lib.Seq.{take_at, drop_at}
use borrow.Author.Tests.{eqb-true, ltb-false, not-false}
use Rattle.answers.specs.Answer.{stride}
use Rattle.tool_compare.specs.Answer.{sum_of}
use Rattle.tool_compare.specs.Compare.{answer, differing, listed, common, cut, reported, compared}
use Rattle.tool_compare.specs.Laws.{firsts, seconds, numbers, sums}
use Rattle.tool_compare.proofs.Listing.{listed_length}

-- The differing answers of two logs.
abbrev pub others : List ℕ → List ℕ → List ℕ → List ℕ
others fs a b = differing (stride fs) a b (common (stride fs) a b)

pub record Accepted (fs a b lent : List ℕ) : Type 0 where
  pub first : length a % stride fs ≡ 0
  pub second : length b % stride fs ≡ 0
  pub room : 2 * length (others fs a b) ≤ length lent
  pub is : compared fs a b lent ≡ reported fs a b lent (others fs a b)

pub neither : (p q : Bool) → p || q ≡ false → (p ≡ false) × (q ≡ false)
neither false q e = (refl, e)
neither true q e = absurd (let z : ◌≡◌ {A = ℕ} 0 1 = cc in omega arith)

module _ (fs a b lent : List ℕ) where
  by_tests : (bad short : Bool) → cut (stride fs) a || cut (stride fs) b ≡ bad → ltb (length lent) (2 * length (others fs a b)) ≡ short
      → (compared fs a b lent).refusal ≡ 0 → Accepted fs a b lent
  unfolding compared
  by_tests true short e f z = absurd (let y = rw e at z in omega arith)
  by_tests false true e f z = absurd (let y = rw (e, f) at z in omega arith)
  by_tests false false e f z =
      let n = neither (cut (stride fs) a) (cut (stride fs) b) e in
      record {
        first = eqb-true _ 0 (not-false _ n.0);
        second = eqb-true _ 0 (not-false _ n.1);
        room = ltb-false _ _ f;
        is = rw (e, f);
      }

  pub accepted : (compared fs a b lent).refusal ≡ 0 → Accepted fs a b lent
  accepted z = by_tests (cut (stride fs) a || cut (stride fs) b) (ltb (length lent) (2 * length (others fs a b))) refl refl z

-- The sums of the answers ks.
abbrev pub sums_of : List ℕ → List ℕ → List ℕ → List ℕ → List ℕ
sums_of fs a b [] = []
sums_of fs a b (k ∷ ks) = sum_of fs (answer (stride fs) a k) (answer (stride fs) b k) ∷ sums_of fs a b ks

module _ (fs a b : List ℕ) where
  firsts_listed : (ks : List ℕ) → firsts (listed fs a b ks) ≡ ks
  firsts_listed [] = refl
  firsts_listed (k ∷ ks) = ap (λ (l : List ℕ). k ∷ l) (firsts_listed ks)

  seconds_listed : (ks : List ℕ) → seconds (listed fs a b ks) ≡ sums_of fs a b ks
  seconds_listed [] = refl
  seconds_listed (k ∷ ks) = ap (λ (l : List ℕ). sum_of fs (answer (stride fs) a k) (answer (stride fs) b k) ∷ l) (seconds_listed ks)

  module _ (lent ks : List ℕ) where
    front : take (2 * length ks) (listed fs a b ks ++ drop (2 * length ks) lent) ≡ listed fs a b ks
    front = take_at (listed fs a b ks) (drop (2 * length ks) lent) (2 * length ks) (listed_length fs a b ks)

    pub numbers_are : numbers (reported fs a b lent ks) ≡ ks
    numbers_are = ap firsts front ∙ firsts_listed ks

    pub sums_are : sums (reported fs a b lent ks) ≡ sums_of fs a b ks
    sums_are = ap seconds front ∙ seconds_listed ks

    pub rest_is : drop (2 * length ks) (listed fs a b ks ++ drop (2 * length ks) lent) ≡ drop (2 * length ks) lent
    rest_is = drop_at (listed fs a b ks) (drop (2 * length ks) lent) (2 * length ks) (listed_length fs a b ks)
