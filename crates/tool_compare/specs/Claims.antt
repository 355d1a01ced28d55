-- All that is shown of comparing two logs.
use Rattle.std.specs.Prelude.{◌≡◌, true, false, List, [], ◌∷◌, ◌++◌, ℕ, take, drop, replicate}
use Rattle.answers.specs.Answer.{plain, clocked}
use Rattle.tool_compare.specs.Compare.{compared_as, compared_logs}
use Rattle.tool_compare.specs.Laws.{TellsAll, LeavesTheRest, Exchanged, FiveExactly}
use Rattle.tool_compare.specs.Pieces.{InPieces, OtherPiece, CutPiece, MoreOfOne, MoreOfCut}

-- Two logs of kind 10 that the laws speak of: the second answer differs in its value and its vector, and the second log has an answer more.
abbrev pub one : List ℕ
one = (plain ∷ replicate 9 0) ++ (plain ∷ replicate 9 0)

abbrev pub other : List ℕ
other = (plain ∷ replicate 9 0) ++ (plain ∷ replicate 4 0) ++ (1 ∷ 0 ∷ 0 ∷ 0 ∷ 2 ∷ []) ++ (plain ∷ replicate 9 0)

-- Two of kind 11, of which the second answer differs in its refusal and its clock.
abbrev pub timed : List ℕ
timed = (clocked ∷ replicate 17 0) ++ (clocked ∷ replicate 17 0)

abbrev pub later : List ℕ
later = (clocked ∷ replicate 17 0) ++ (clocked ∷ 4 ∷ replicate 15 0) ++ (7 ∷ [])

abbrev pub lent : List ℕ
lent = 9 ∷ 9 ∷ 9 ∷ []

pub record Example : Type 0 where
  pub whole : compared_logs one other lent
      ≡ record { list = 1 ∷ 68 ∷ 9 ∷ []; count = 1; refusal = 0; second = true; start = 20; surplus = plain ∷ replicate 9 0 }
  pub clock : compared_logs timed later lent
      ≡ record { list = 1 ∷ 130 ∷ 9 ∷ []; count = 1; refusal = 0; second = false; start = 36; surplus = [] }
  pub beginning : (compared_as plain (take 10 one) (take 10 other) []).refusal ≡ 0
  pub rest : (compared_as plain (drop 10 one) (drop 10 other) lent).refusal ≡ 0
  pub more : (compared_as plain [] (drop 20 other) lent).refusal ≡ 0
  pub two_kinds : (compared_logs timed one lent).refusal ≡ 5
  pub no_kind : (compared_logs (drop 1 one) other lent).refusal ≡ 5
  -- The cut last answer does not begin with 11: 5 before 6.
  pub other_in_cut : (compared_logs timed (later ++ (plain ∷ [])) lent).refusal ≡ 5
  pub cut : (compared_logs timed (later ++ (clocked ∷ [])) lent).refusal ≡ 6
  pub short : (compared_logs one other (9 ∷ [])).refusal ≡ 7

pub record Claims : Type 0 where
  pub five : FiveExactly
  pub tells : TellsAll
  pub leaves : LeavesTheRest
  pub exchanged : Exchanged
  pub in_pieces : InPieces
  pub other_piece : OtherPiece
  pub cut_piece : CutPiece
  pub more_of_one : MoreOfOne
  pub more_of_cut : MoreOfCut
  pub example : Example
