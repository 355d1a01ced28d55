-- What a call that gathers lines tells, in numbers, and what it leaves of the lent line buffer.
use Rattle.std.specs.Prelude.{◌≡◌, List, ℕ}
use Rattle.tool_lines.specs.Call.{handed_in}
use Rattle.tool_lines.specs.Stop.{number_of, refusal_of}
use Rattle.tool_lines.specs.declared.Lines.{Lines}
use Rattle.tool_lines.specs.declared.Turned.{Turned}
use Rattle.tool_lines.specs.declared.line.Outcome.{Outcome}
use Rattle.tool_lines.specs.declared.line.Outcome.TheVariants.{Nothing, Handed, Dropped, Stopped, Ended, Refused}
use Rattle.qsm_c.specs.declared.lines.LinesTold.{LinesTold}

-- The end of the trace is 0, a line 1, a drop 2, a stop 3, a refusal of the call 4; no call ends with nothing to tell, 5.
abbrev pub in_numbers : Lines → Outcome → LinesTold
in_numbers s Nothing = record { state = s; number = 0; kind = 5; length = 0; cause = 0; refusal = 0 }
in_numbers s (Handed number n) = record { state = s; number = number; kind = 1; length = n; cause = 0; refusal = 0 }
in_numbers s (Dropped number cause) = record { state = s; number = number; kind = 2; length = 0; cause = cause; refusal = 0 }
in_numbers s (Stopped why) = record { state = s; number = 0; kind = 3; length = 0; cause = 0; refusal = number_of why }
in_numbers s Ended = record { state = s; number = 0; kind = 0; length = 0; cause = 0; refusal = 0 }
in_numbers s (Refused why) = record { state = s; number = 0; kind = 4; length = 0; cause = 0; refusal = refusal_of why }

pub record Tells (o : Turned) (lent : List ℕ) (r : LinesTold) (left : List ℕ) : Type 0 where
  pub answer : r ≡ in_numbers o.state o.outcome
  pub buffer : left ≡ handed_in o.state.line o.outcome lent
