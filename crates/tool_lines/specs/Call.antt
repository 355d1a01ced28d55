-- Document 02, L8: the library's state, and a call, which goes on to the next line, drop, stop or end.
use Rattle.std.specs.Prelude.{◌≡◌, Bool, true, false, cond, Option, Some, None, ◌||◌, List, ◌++◌, ℕ, zero, suc, ◌+◌, ◌-◌, ◌*◌, ◌%◌, ◌^◌, eqb, ltb, leb, length, take, drop}
use Rattle.qsm.specs.model.State.{reset_module}
use Rattle.qsm.specs.model.Event.{clock_limit, does}
use Rattle.qsm.specs.declared.event.Access.{Access}
use Rattle.qsm.specs.declared.event.Event.{Event}
use Rattle.qsm.specs.declared.event.Event.TheVariants.{Reset, Hold}
use Rattle.qsm.specs.declared.event.Event.TheVariants as event
use Rattle.trace.specs.Trace.{parsed}
use Rattle.trace.specs.declared.Parsed.{Parsed}
use Rattle.trace.specs.declared.Parsed.TheVariants.{Record, Unknown, Cut}
use Rattle.tool_lines.specs.Poll.{polled}
use Rattle.tool_lines.specs.Schedule.{reaches}
use Rattle.tool_lines.specs.Gather.{most, forgotten, shown}
use Rattle.tool_lines.specs.Replay.{first_line}
use Rattle.tool_lines.specs.Noise.{silent, figure_of, heard, unheard}
use Rattle.tool_lines.specs.declared.line.Line.{Line}
use Rattle.tool_lines.specs.declared.line.Gathered.{Gathered}
use Rattle.tool_lines.specs.declared.line.Outcome.{Outcome}
use Rattle.tool_lines.specs.declared.line.Outcome.TheVariants.{Nothing, Handed, Dropped, Stopped, Ended, Refused}
use Rattle.tool_lines.specs.declared.stop.Stop.{Stop}
use Rattle.tool_lines.specs.declared.stop.Stop.TheVariants as stop
use Rattle.tool_lines.specs.declared.stop.Refusal.TheVariants.{Period, Room}
use Rattle.tool_lines.specs.declared.noise.Noises.{Noises}
use Rattle.tool_lines.specs.declared.poll.Polled.{Polled}
use Rattle.tool_lines.specs.declared.Lines.{Lines}
use Rattle.tool_lines.specs.declared.Turned.{Turned}

abbrev none : Noises
none = record { line = silent; last = silent }

-- At the start of a trace, on a module fresh from reset.
abbrev pub started : Lines
started =
    record { device = reset_module; at = 0; left = 0; pins = 0; rxd = false; since = 0; line = first_line; noise = none }

abbrev pub turned : Lines → Outcome → Turned
turned s o = record { state = s; outcome = o }

-- Past a record.
abbrev pub moved_to : Lines → ℕ → Lines
moved_to s at =
    record { device = s.device; at = at; left = s.left; pins = s.pins; rxd = s.rxd; since = s.since; line = s.line; noise = s.noise }

-- So many clocks of a hold, of which so many are left then, and so many clocks have passed since the last poll.
abbrev pub held_for : Lines → ℕ → Bool → ℕ → ℕ → ℕ → Lines
held_for s pins rxd n left since =
    record {
      device = (does s.device (Hold pins rxd n)).state;
      at = s.at;
      left = left;
      pins = pins;
      rxd = rxd;
      since = since;
      line = s.line;
      noise = s.noise;
    }

-- A poll, and what it makes of the line and of its noise figures.
abbrev pub gathered : Lines → Polled → Gathered → Noises → Turned
gathered s p g noise =
    turned
    (record {
      device = p.state;
      at = s.at;
      left = s.left;
      pins = s.pins;
      rxd = s.rxd;
      since = s.since;
      line = g.line;
      noise = noise;
    })
    g.outcome

abbrev pub poll_now : Lines → Turned
poll_now s =
    gathered s (polled s.device) (shown s.line (polled s.device).status (polled s.device).word)
    (heard s.noise (polled s.device).status (polled s.device).word (figure_of s.device))

-- A hold of n clocks, or as much of it as comes before the next poll, and then the poll.
abbrev pub hold_for : ℕ → ℕ → Lines → ℕ → Bool → ℕ → Turned
hold_for period since s pins rxd n =
    cond (ltb n (period - since)) (turned (held_for s pins rxd n 0 (since + n)) Nothing)
    (poll_now (held_for s pins rxd (period - since) (n - (period - since)) 0))

-- Clocks since the last poll, in whatever state.
abbrev pub since_of : ℕ → Lines → ℕ
since_of period s = s.since % period

unfoldable pub hold_on : ℕ → Lines → ℕ → Bool → ℕ → Turned
hold_on period s pins rxd n = hold_for period (since_of period s) s pins rxd n

abbrev pub restarted : Lines → Lines
restarted s =
    record {
      device = reset_module;
      at = s.at;
      left = s.left;
      pins = s.pins;
      rxd = s.rxd;
      since = 0;
      line = forgotten s.line;
      noise = unheard s.noise;
    }

abbrev pub accessed : Lines → Access → Lines
accessed s a =
    record {
      device = (does s.device (event.Access a)).state;
      at = s.at;
      left = s.left;
      pins = s.pins;
      rxd = s.rxd;
      since = s.since;
      line = s.line;
      noise = s.noise;
    }

unfoldable pub event_on : ℕ → Lines → Event → Turned
event_on period s Reset = turned (restarted s) Nothing
event_on period s (Hold pins rxd n) = hold_on period s pins rxd n
event_on period s (event.Access a) = turned (accessed s a) Nothing

-- Why an event stops the replay, before it; of a hold before any of its clocks. (Its number is `stops`.)
abbrev pub stop_at : ℕ → Event → Option Stop
stop_at clock Reset = None
stop_at clock (Hold pins rxd n) = cond (ltb clock_limit (clock + n)) (Some stop.ClockLimit) None
stop_at clock (event.Access a) = cond (reaches a) (Some stop.Access) None

-- How far a record takes the place in the trace.
abbrev pub size_of : Parsed → ℕ
size_of (Record e n) = n
size_of Unknown = 0
size_of Cut = 0

-- An event whose record has so many bytes, unless it stops the replay before it.
abbrev pub event_or_stop : ℕ → Lines → Event → ℕ → Option Stop → Turned
event_or_stop period s e n None = event_on period (moved_to s (s.at + n)) e
event_or_stop period s e n (Some why) = turned s (Stopped why)

-- The record where the trace stands.
abbrev pub record_on : ℕ → Lines → Parsed → Turned
record_on period s (Record e n) = event_or_stop period s e n (stop_at s.device.clock e)
record_on period s Unknown = turned s (Stopped stop.UnknownKind)
record_on period s Cut = turned s (Stopped stop.CutRecord)

-- The hold under way.
abbrev pub under_way : Lines → Event
under_way s = Hold s.pins s.rxd s.left

-- A turn: the hold under way up to the next poll, or the next record.
unfoldable pub turn : ℕ → List ℕ → Lines → Turned
turn period t s =
    cond (eqb s.left 0)
    (cond (leb (length t) s.at) (turned s Ended) (record_on period s (parsed (drop s.at t))))
    (event_or_stop period s (under_way s) 0 (stop_at s.device.clock (under_way s)))

abbrev pub nothing : Outcome → Bool
nothing Nothing = true
nothing (Handed number n) = false
nothing (Dropped number cause) = false
nothing (Stopped why) = false
nothing Ended = false
nothing (Refused why) = false

abbrev pub onward : (Lines → Turned) → Turned → Turned
onward on r = cond (nothing r.outcome) (on r.state) r

-- Turn after turn until there is something to tell, for at most so many turns.
unfoldable pub go_for : ℕ → ℕ → List ℕ → Lines → Turned
go_for zero period t s = turned s Nothing
go_for (suc k) period t s = onward (go_for k period t) (turn period t s)

-- Each turn takes a byte of the trace, of which none brings as many as 2^32 clocks, or a clock of the hold under way.
abbrev pub turns_left : List ℕ → Lines → ℕ
turns_left t s = (length t - s.at) * 2 ^ 32 + s.left

unfoldable pub go_on : ℕ → List ℕ → Lines → Turned
go_on period t s = go_for (suc (turns_left t s)) period t s

-- The period is 1 to 65,535, else refusal 1; then a line buffer under 128 bytes is refusal 7. Either leaves the state as it is.
abbrev pub called : ℕ → List ℕ → ℕ → Lines → Turned
called period t room s =
    cond (eqb period 0 || ltb 65535 period) (turned s (Refused Period))
    (cond (ltb room most) (turned s (Refused Room)) (go_on period t s))

-- The lent buffer afterwards: a line's characters at its start and the rest as it was; otherwise unchanged.
abbrev pub handed_in : Line → Outcome → List ℕ → List ℕ
handed_in l Nothing lent = lent
handed_in l (Handed number n) lent = take n l.characters ++ drop (length (take n l.characters)) lent
handed_in l (Dropped number cause) lent = lent
handed_in l (Stopped why) lent = lent
handed_in l Ended lent = lent
handed_in l (Refused why) lent = lent

-- What a call answers, and what it leaves of the lent line buffer.
pub record Calls (o : Turned) (lent : List ℕ) (r : Turned) (left : List ℕ) : Type 0 where
  pub answer : r ≡ o
  pub buffer : left ≡ handed_in o.state.line o.outcome lent
