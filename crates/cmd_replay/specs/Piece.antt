-- A piece of a trace played. A record cut by the end of a piece is carried forward; it is refused only at the end of the input. That pieces make up
-- the whole is the law `Streams` of the trace.
use Rattle.std.specs.Prelude.{◌≡◌, Bool, true, false, cond, ℕ, ◌≤◌, length}
use mathlib.Core.List.{List, flatten}
use Rattle.qsm.specs.model.State.{reset_module}
use Rattle.trace.specs.Play.{Outcome, stop_number, play}
use Rattle.trace.specs.declared.Stop.{Stop}
use Rattle.trace.specs.declared.Stop.TheVariants.{End, UnknownKind, CutRecord, NoRoom, ClockLimit}
use Rattle.files.specs.Pieces.{counted}
use Rattle.cmd_replay.specs.declared.piece.Run.{Run}
use Rattle.cmd_replay.specs.declared.piece.Next.{Next}
use Rattle.cmd_replay.specs.declared.piece.Next.TheVariants.{Play, Read, Done, Refused, NotRead, NotWritten}
use Rattle.cmd_replay.specs.declared.piece.Stepped.{Stepped}

-- Fresh from reset, with nothing read.
abbrev pub started : Run
started = record { state = reset_module; records = 0 }

-- What follows a piece. A full output is written, and the piece goes on.
abbrev pub after_stop : Stop → Bool → Next
after_stop End ended = cond ended Done Read
after_stop UnknownKind ended = Refused UnknownKind
after_stop CutRecord ended = cond ended (Refused CutRecord) Read
after_stop NoRoom ended = Play
after_stop ClockLimit ended = Refused ClockLimit

-- A failed write outdoes what follows.
abbrev pub unless_failed : Bool → Next → Next
unless_failed failed next = cond failed NotWritten next

-- A run past what was played.
abbrev pub ran : Run → Outcome → Run
ran r o = record { state = o.state; records = counted r.records (length o.records) }

-- The piece t played into so much room.
pub record Steps (r : Run) (t : List ℕ) (ended : Bool) (room : ℕ) (s : Stepped) : Type 0 where
  pub run : s.run ≡ ran r (play r.state t room)
  pub read : s.read ≡ length (flatten (play r.state t room).records)
  pub within : s.read ≤ length t
  pub stop : stop_number s.stop ≡ (play r.state t room).stop
  pub next : s.next ≡ unless_failed s.out.failed (after_stop s.stop ended)

abbrev pub goes_on : Next → Bool
goes_on Play = true
goes_on Read = true
goes_on Done = false
goes_on (Refused s) = false
goes_on (NotRead e) = false
goes_on NotWritten = false
