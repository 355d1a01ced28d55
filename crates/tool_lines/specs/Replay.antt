-- Document 02, L8: a trace played with polling put in. The events that the module gets, what its polls show, and the lines that come of them.
use Rattle.std.specs.Prelude.{List, [], ◌∷◌, ◌++◌, ℕ, replicate}
use Rattle.qsm.specs.model.State.{reset_module}
use Rattle.qsm.specs.model.Event.{does}
use Rattle.qsm.specs.declared.state.Module.{Module}
use Rattle.qsm.specs.declared.event.Event.{Event}
use Rattle.qsm.specs.declared.event.Event.TheVariants.{Reset, Hold}
use Rattle.qsm.specs.declared.event.Event.TheVariants as event
use Rattle.tool_lines.specs.Poll.{poll_events, polled}
use Rattle.tool_lines.specs.Schedule.{Act, plays, polls, scheduled}
use Rattle.tool_lines.specs.Gather.{Notice, was_reset, showed, Report, gather, most}
use Rattle.tool_lines.specs.declared.line.Line.{Line}

-- The list of events with the reads of the polls put in.
unfoldable pub events_of : List Act → Module → List Event
events_of [] m = []
events_of (plays e ∷ rest) m = e ∷ events_of rest (does m e).state
events_of (polls ∷ rest) m = poll_events m ++ events_of rest (polled m).state

-- What an event tells: a reset does.
abbrev pub told : Event → List Notice
told Reset = was_reset ∷ []
told (Hold pins rxd n) = []
told (event.Access a) = []

-- The resets, and what each poll shows.
unfoldable pub notices : List Act → Module → List Notice
notices [] m = []
notices (plays e ∷ rest) m = told e ++ notices rest (does m e).state
notices (polls ∷ rest) m = showed (polled m).status (polled m).word ∷ notices rest (polled m).state

-- The first line.
abbrev pub first_line : Line
first_line = record { number = 0; cause = 0; count = 0; characters = replicate most 0 }

-- A trace on a module fresh from reset: the events, and the lines and drops.
abbrev pub polled_events : ℕ → List ℕ → List Event
polled_events period t = events_of (scheduled period 0 0 t).acts reset_module

abbrev pub lines : ℕ → List ℕ → List Report
lines period t = gather first_line (notices (scheduled period 0 0 t).acts reset_module)
