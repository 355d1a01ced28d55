-- Pieces of two logs give the verdict of the whole logs.
use Rattle.std.specs.Prelude.{◌≡◌, true, false, List, ◌++◌, ℕ, ◌+◌, ◌*◌, ◌^◌, ◌<◌, ◌≤◌, length}
use Rattle.answers.specs.Answer.{stride_of}
use Rattle.tool_compare.specs.Compare.{compared_as, in_numbers}
use Rattle.cmd_compare.specs.Tally.{tallied, equal}
use Rattle.cmd_compare.specs.declared.tally.Tally.{Tally}

-- A tally of the logs a and b of a kind, as far as they were read: it has what comparing them as a whole gives.
pub record Tallies (kind : ℕ) (a b lent : List ℕ) (t : Tally) : Type 0 where
  pub accepted : (compared_as kind a b lent).refusal ≡ 0
  pub differing : t.differing ≡ (compared_as kind a b lent).count
  pub first : t.first ≡ length a
  pub second : t.second ≡ length b
  pub uncut : t.cut ≡ false

-- A count that a program can hold.
abbrev pub Countable : List ℕ → Type 0
Countable l = length l < 2 ^ 64

-- n answers of each log, and then a piece of each: the tally is of both.
abbrev pub PiecesTally : Type 0
PiecesTally =
    (kind n : ℕ) (a b c d l m lent : List ℕ) (t : Tally) → length a ≡ n * stride_of kind → length b ≡ n * stride_of kind →
    Tallies kind a b l t → (compared_as kind c d m).refusal ≡ 0 →
    2 * ((compared_as kind a b l).count + (compared_as kind c d m).count) ≤ length lent →
    Countable lent → Countable (a ++ c) → Countable (b ++ d) →
    Tallies kind (a ++ c) (b ++ d) lent (tallied t kind (length c) (length d) (in_numbers (compared_as kind c d m)))

-- Status 0 exactly for logs that are equal, byte for byte.
pub record Exactly (a b : List ℕ) (t : Tally) : Type 0 where
  pub only : equal t ≡ true → a ≡ b
  pub always : a ≡ b → equal t ≡ true

abbrev pub EqualExactly : Type 0
EqualExactly = (kind : ℕ) (a b lent : List ℕ) (t : Tally) → Tallies kind a b lent t → Exactly a b t

pub record Claims : Type 0 where
  pub pieces_tally : PiecesTally
  pub equal_exactly : EqualExactly
