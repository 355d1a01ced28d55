-- How a drawing ended: `refusal 5, unknown record kind: record at byte 8`, and the status.
use Rattle.std.specs.Prelude.{Bool, true, false, Option, Result, Ok, Err, List, ℕ}
use Rattle.console.specs.Stop as stop
use Rattle.console.specs.declared.status.Status.{Status}
use Rattle.console.specs.declared.status.Status.TheVariants as exit
use Rattle.tool_wave.specs.declared.Step.{Step}
use Rattle.tool_wave.specs.declared.Stop.{Stop}
use Rattle.tool_wave.specs.declared.Stop.TheVariants.{End, UnknownKind, CutRecord, ClockLimit}

-- More bytes could change what was told: at the end of a piece, or before a record that its end cuts.
abbrev pub wants : Result (Option Step) Stop → Bool
wants (Ok told) = false
wants (Err End) = true
wants (Err UnknownKind) = false
wants (Err CutRecord) = true
wants (Err ClockLimit) = false

abbrev pub stop_line : ℕ → ℕ → List ℕ
stop_line why place = stop.stop_line (stop.stop_words why) why place

-- A trace that stopped is told to a script; what has not ended could not be done.
abbrev pub status : Result (Option Step) Stop → Status
status (Ok told) = exit.Failed
status (Err End) = exit.Done
status (Err UnknownKind) = exit.Found
status (Err CutRecord) = exit.Found
status (Err ClockLimit) = exit.Found
