-- Calls of the gatherer on a piece of a trace, one after the other.
use Rattle.std.specs.Prelude.{Bool, true, false, ◌||◌, List, ℕ}
use Rattle.tool_lines.specs.Call as gatherer
use Rattle.tool_lines.specs.Pieces as pieces
use Rattle.tool_lines.specs.declared.line.Outcome.{Outcome}
use Rattle.tool_lines.specs.declared.line.Outcome.TheVariants.{Nothing, Handed, Dropped, Stopped, Ended, Refused}
use Rattle.tool_lines.specs.declared.Lines.{Lines}
use Rattle.tool_lines.specs.declared.Turned.{Turned}
use Rattle.cmd_lines.specs.declared.calls.Run.{Run}

abbrev pub begun : Run
begun = record { state = gatherer.started; told = Nothing; dropped = false }

abbrev pub drops : Outcome → Bool
drops Nothing = false
drops (Handed number n) = false
drops (Dropped number cause) = true
drops (Stopped why) = false
drops Ended = false
drops (Refused why) = false

-- A piece has no more to tell.
abbrev pub over : Outcome → Bool
over Nothing = true
over (Handed number n) = false
over (Dropped number cause) = false
over (Stopped why) = true
over Ended = true
over (Refused why) = true

-- A call on a piece that is the last of the trace or not, with room for a line of 128 characters.
abbrev pub called : ℕ → List ℕ → Bool → Lines → Turned
called period bytes last s = pieces.waiting last (gatherer.called period bytes 128 s)

abbrev pub after : Bool → Turned → Run
after dropped t = record { state = t.state; told = t.outcome; dropped = dropped || drops t.outcome }

abbrev pub again : ℕ → List ℕ → Bool → Run → Run
again period bytes last r = after r.dropped (called period bytes last r.state)

abbrev pub rebased : Run → Run
rebased r = record { state = pieces.rebased r.state; told = r.told; dropped = r.dropped }
