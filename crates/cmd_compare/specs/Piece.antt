-- A piece of each of two logs: what follows it. That pieces give what the whole gives are the laws `InPieces`, `OtherPiece`, `CutPiece`,
-- `MoreOfOne` and `MoreOfCut` of the comparison.
use Rattle.std.specs.Prelude.{Bool, cond, ◌&&◌, List, ℕ, ◌*◌, eqb, length, get_or}
use Rattle.answers.specs.Answer.{stride_of}
use Rattle.files.specs.Pieces.{counted}
use Rattle.tool_compare.specs.Kind.{kind_of, begun, first_other, mixed}
use Rattle.tool_compare.specs.declared.Compared.{Compared}
use Rattle.cmd_compare.specs.Tally.{tallied, answers_in}
use Rattle.cmd_compare.specs.declared.tally.Tally.{Tally}
use Rattle.cmd_compare.specs.declared.piece.Log.{Log}
use Rattle.cmd_compare.specs.declared.piece.Log.TheVariants.{First, Second}
use Rattle.cmd_compare.specs.declared.piece.Other.{Other}
use Rattle.cmd_compare.specs.declared.piece.Pieced.{Pieced}
use Rattle.cmd_compare.specs.declared.piece.End.{End}
use Rattle.cmd_compare.specs.declared.piece.End.TheVariants.{More, Done, Refused, OtherKind}

-- The kind of the pieces before, or 0, or of the first.
abbrev pub kind_with : ℕ → List ℕ → List ℕ → ℕ
kind_with before a b = cond (eqb before 0) (kind_of a b) before

-- The number of the first answer of a piece that does not begin with the kind.
abbrev pub other_in : ℕ → List ℕ → ℕ
other_in kind log = first_other kind log (begun (stride_of kind) log)

-- A is hex 41, B is 42.
abbrev pub letter_of : Log → ℕ
letter_of First = 0x41
letter_of Second = 0x42

-- It stands behind so many bytes of its log.
unfoldable pub named : Log → ℕ → ℕ → List ℕ → Other
named which kind before log =
    record {
      log = which;
      answer = counted (answers_in kind before) (other_in kind log);
      place = counted before (other_in kind log * stride_of kind);
      byte = get_or log (other_in kind log * stride_of kind) 0;
      kind = kind;
    }

unfoldable pub first_or_second : ℕ → Tally → List ℕ → List ℕ → Other
first_or_second kind t a b = cond (mixed kind a) (named First kind t.first a) (named Second kind t.second b)

-- A log that is cut is refused at the ends of both.
abbrev pub finished : Bool → End
finished cut = cond cut (Refused 6) Done

abbrev pub ended : Bool → Bool → End
ended over cut = cond over (finished cut) More

unfoldable pub followed : Tally → ℕ → ℕ → ℕ → Compared → Pieced
followed t kind a b r =
    record {
      tally = tallied t kind a b r;
      count = r.count;
      end = ended (eqb a 0 && eqb b 0) (tallied t kind a b r).cut;
    }

-- 5 and 7 end it at once.
unfoldable pub pieced : Tally → ℕ → List ℕ → List ℕ → Compared → Pieced
pieced t kind a b r =
    cond (eqb r.refusal 5) (record { tally = t; count = 0; end = OtherKind (first_or_second kind t a b) })
    (cond (eqb r.refusal 7) (record { tally = t; count = 0; end = Refused 7 }) (followed t kind (length a) (length b) r))
