-- What a piece of each log makes of the run.
use Rattle.std.specs.Prelude.{◌≡◌, Bool, cond, List, ℕ, ◌/◌, min, length}
use Rattle.console.specs.Output.{Gives}
use Rattle.tool_compare.specs.Compare.{Outcome, compared_as, in_numbers}
use Rattle.cmd_compare.specs.Tally.{answers_of}
use Rattle.cmd_compare.specs.Piece.{kind_with, pieced}
use Rattle.cmd_compare.specs.Lines.{list_lines}
use Rattle.cmd_compare.specs.declared.piece.End.{End}
use Rattle.cmd_compare.specs.declared.piece.End.TheVariants.{NotWritten}
use Rattle.cmd_compare.specs.declared.piece.Pieced.{Pieced}
use Rattle.cmd_compare.specs.declared.step.Turned.{Turned}

-- A failed write outdoes what follows.
abbrev pub stopped : Bool → End → End
stopped failed end = cond failed NotWritten end

abbrev pub kind_of_piece : Turned → List ℕ → List ℕ → ℕ
kind_of_piece t a b = kind_with t.tally.kind a b

-- The comparison of two pieces into a list that is lent, and what it makes of the tally.
abbrev pub outcome : Turned → List ℕ → List ℕ → List ℕ → Outcome
outcome t a b list = compared_as (kind_of_piece t a b) a b list

abbrev pub piece_of : Turned → List ℕ → List ℕ → List ℕ → Pieced
piece_of t a b list = pieced t.tally (kind_of_piece t a b) a b (in_numbers (outcome t a b list))

-- The lines of the answers that it lists, numbered on from those before, in the pass that shows them.
abbrev pub shown_lines : Bool → Turned → List ℕ → List ℕ → List ℕ → List ℕ
shown_lines shows t a b list =
    list_lines (kind_of_piece t a b) (answers_of t.tally) a b (outcome t a b list).list
    (min (cond shows (piece_of t a b list).count 0) (length (outcome t a b list).list / 2))

pub record Steps (shows : Bool) (t : Turned) (a b list lines : List ℕ) (r : Turned) (lines' : List ℕ) : Type 0 where
  pub tally : r.tally ≡ (piece_of t a b list).tally
  pub given : Gives t.out lines (shown_lines shows t a b list) r.out lines'
  pub end : r.end ≡ stopped r.out.failed (piece_of t a b list).end
