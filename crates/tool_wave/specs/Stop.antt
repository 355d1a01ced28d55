-- Why there is no turn more, by number: 0 at the end of the trace, or the refusal that stopped it.
use Rattle.std.specs.Prelude.{ℕ}
use Rattle.tool_wave.specs.declared.Stop.{Stop}
use Rattle.tool_wave.specs.declared.Stop.TheVariants.{End, UnknownKind, CutRecord, ClockLimit}

abbrev pub number_of : Stop → ℕ
number_of End = 0
number_of UnknownKind = 5
number_of CutRecord = 6
number_of ClockLimit = 10
