-- Two logs of a kind, compared piece by piece: what pieces give is what the whole gives.
use Rattle.std.specs.Prelude.{◌≡◌, ◌⊎◌, List, [], ◌++◌, map, ℕ, ◌+◌, ◌*◌, ◌≤◌, length}
use Rattle.answers.specs.Answer.{stride_of}
use Rattle.tool_compare.specs.Compare.{Outcome, compared_as}
use Rattle.tool_compare.specs.Laws.{numbers, sums}

-- n answers of each log, that gave p, and then the rest of the logs, that gave q: the whole has the numbers of p, then those of q counted on
-- from n, and the surplus of q.
pub record Joins (n : ℕ) (p q whole : Outcome) : Type 0 where
  pub refusal : whole.refusal ≡ 0
  pub count : whole.count ≡ p.count + q.count
  pub numbers_are : numbers whole ≡ numbers p ++ map (λ (k : ℕ). n + k) (numbers q)
  pub sums_are : sums whole ≡ sums p ++ sums q
  pub second : whole.second ≡ q.second
  pub surplus : whole.surplus ≡ q.surplus

abbrev pub InPieces : Type 0
InPieces =
    (kind : ℕ) (a b c d l m lent : List ℕ) (n : ℕ) → length a ≡ n * stride_of kind → length b ≡ n * stride_of kind →
    (compared_as kind a b l).refusal ≡ 0 → (compared_as kind c d m).refusal ≡ 0 →
    2 * ((compared_as kind a b l).count + (compared_as kind c d m).count) ≤ length lent →
    Joins n (compared_as kind a b l) (compared_as kind c d m) (compared_as kind (a ++ c) (b ++ d) lent)

-- An answer of another kind in either makes the whole refused 5.
abbrev pub OtherPiece : Type 0
OtherPiece =
    (kind : ℕ) (a b c d l m lent : List ℕ) (n : ℕ) → length a ≡ n * stride_of kind → length b ≡ n * stride_of kind →
    ((compared_as kind a b l).refusal ≡ 5) ⊎ ((compared_as kind c d m).refusal ≡ 5) → (compared_as kind (a ++ c) (b ++ d) lent).refusal ≡ 5

-- Else a rest that is cut makes the whole cut.
abbrev pub CutPiece : Type 0
CutPiece =
    (kind : ℕ) (a b c d l m lent : List ℕ) (n : ℕ) → length a ≡ n * stride_of kind → length b ≡ n * stride_of kind →
    ((compared_as kind a b l).refusal ≡ 5 → ⊥) → (compared_as kind c d m).refusal ≡ 6 → (compared_as kind (a ++ c) (b ++ d) lent).refusal ≡ 6

-- Where the first log has ended, whole answers more of the second are more surplus and change nothing else.
pub record Longer (c : List ℕ) (o whole : Outcome) : Type 0 where
  pub refusal : whole.refusal ≡ 0
  pub count : whole.count ≡ o.count
  pub numbers_are : numbers whole ≡ numbers o
  pub sums_are : sums whole ≡ sums o
  pub surplus : whole.surplus ≡ o.surplus ++ c

abbrev pub MoreOfOne : Type 0
MoreOfOne =
    (kind : ℕ) (a b c m lent : List ℕ) → length a ≤ length b → (compared_as kind a b lent).refusal ≡ 0 → (compared_as kind [] c m).refusal ≡ 0 →
    Longer c (compared_as kind a b lent) (compared_as kind a (b ++ c) lent)

-- Where it has ended within an answer, the whole is cut, unless more of the second has an answer of another kind.
abbrev pub MoreOfCut : Type 0
MoreOfCut =
    (kind : ℕ) (a b c l m lent : List ℕ) (n : ℕ) → length b ≡ n * stride_of kind → (compared_as kind a b l).refusal ≡ 6 →
    (((compared_as kind [] c m).refusal ≡ 5 → ⊥) → (compared_as kind a (b ++ c) lent).refusal ≡ 6)
    × ((compared_as kind [] c m).refusal ≡ 5 → (compared_as kind a (b ++ c) lent).refusal ≡ 5)
