-- What is said of two logs, and the status: 0 for equal, 1 for differ, 2 for refused and for logs that could not be read.
use Rattle.std.specs.Prelude.{Bool, true, false, cond, ◌&&◌, List, [], ℕ, ltb}
use Rattle.console.specs.declared.status.Status.{Status}
use Rattle.console.specs.declared.status.Status.TheVariants as status
use Rattle.text.specs.Verdict.{equal_line, differ_line, refused_line, other_line}
use Rattle.cmd_compare.specs.Tally.{answers_of, more_of, equal}
use Rattle.cmd_compare.specs.Piece.{letter_of}
use Rattle.cmd_compare.specs.declared.tally.Tally.{Tally}
use Rattle.cmd_compare.specs.declared.piece.Other.{Other}
use Rattle.cmd_compare.specs.declared.piece.End.{End}
use Rattle.cmd_compare.specs.declared.piece.End.TheVariants.{More, Done, Refused, OtherKind, NotRead, NotWritten}

-- Of logs that were compared to their ends.
abbrev pub compared_text : Tally → List ℕ
compared_text t =
    cond (equal t) (equal_line (answers_of t))
    (differ_line t.differing (answers_of t) (more_of t.kind t.first t.second) (more_of t.kind t.second t.first))

abbrev pub other_text : Other → List ℕ
other_text o = other_line (letter_of o.log) o.answer o.place o.byte o.kind

unfoldable pub verdict_text : Tally → End → List ℕ
verdict_text t Done = compared_text t
verdict_text t (Refused r) = refused_line r
verdict_text t (OtherKind o) = other_text o
verdict_text t More = []
verdict_text t (NotRead log) = []
verdict_text t NotWritten = []

abbrev pub compared_status : Tally → Status
compared_status t = cond (equal t) status.Done status.Found

-- A pass that came to the ends of both logs.
abbrev pub is_done : End → Bool
is_done Done = true
is_done (Refused r) = false
is_done (OtherKind o) = false
is_done More = false
is_done (NotRead log) = false
is_done NotWritten = false

abbrev pub status_of : Tally → End → Status
status_of t end = cond (is_done end) (compared_status t) status.Failed

-- There are answers to show, and the status once they are shown.
abbrev pub to_show : Tally → End → Bool
to_show t end = is_done end && ltb 0 t.differing

abbrev pub status_shown : Status → End → Status
status_shown s end = cond (is_done end) s status.Failed
