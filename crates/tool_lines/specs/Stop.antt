-- Document 02, L8: why a replay stops, and why a call is refused, by number.
use Rattle.std.specs.Prelude.{ℕ}
use Rattle.tool_lines.specs.declared.stop.Stop.{Stop}
use Rattle.tool_lines.specs.declared.stop.Stop.TheVariants as stop
use Rattle.tool_lines.specs.declared.stop.Refusal.{Refusal}
use Rattle.tool_lines.specs.declared.stop.Refusal.TheVariants.{Period, Room}

abbrev pub number_of : Stop → ℕ
number_of stop.Access = 3
number_of stop.UnknownKind = 5
number_of stop.CutRecord = 6
number_of stop.ClockLimit = 10

abbrev pub refusal_of : Refusal → ℕ
refusal_of Period = 1
refusal_of Room = 7
