-- How a replay ended: `refusal 3, an access touches SCSR or SCDR: record at byte 40`, and the status.
use Rattle.std.specs.Prelude.{Bool, true, false, cond, List, ℕ, eqb}
use Rattle.text.specs.Digits.{ascii}
use Rattle.console.specs.Stop as stop
use Rattle.console.specs.declared.status.Status.{Status}
use Rattle.console.specs.declared.status.Status.TheVariants as exit
use Rattle.tool_lines.specs.declared.line.Outcome.{Outcome}
use Rattle.tool_lines.specs.declared.line.Outcome.TheVariants.{Nothing, Handed, Dropped, Stopped, Ended, Refused}

abbrev pub stop_words : ℕ → List ℕ
stop_words why = cond (eqb why 3) (ascii "an access touches SCSR or SCDR") (stop.stop_words why)

abbrev pub stop_line : ℕ → ℕ → List ℕ
stop_line why place = stop.stop_line (stop_words why) why place

-- At the end of the trace.
abbrev pub ended : Bool → Status
ended true = exit.Found
ended false = exit.Done

-- A trace that stopped, or of which a line was dropped, is told to a script; a period that is refused could not be done, nor what has not ended.
abbrev pub status : Outcome → Bool → Status
status Nothing dropped = exit.Failed
status (Handed number n) dropped = exit.Failed
status (Dropped number cause) dropped = exit.Failed
status (Stopped why) dropped = exit.Found
status Ended dropped = ended dropped
status (Refused why) dropped = exit.Failed
