-- The library's state, and a turn: the hold under way up to its next change or its end, or the next record.
use Rattle.std.specs.Prelude.{cond, Option, Some, None, Result, Ok, Err, List, ℕ, ◌+◌, ◌-◌, eqb, leb, length, drop}
use Rattle.qsm.specs.declared.event.Event.{Event}
use Rattle.qsm.specs.declared.event.Event.TheVariants.{Reset, Hold}
use Rattle.qsm.specs.declared.event.Event.TheVariants as event
use Rattle.trace.specs.Trace.{parsed}
use Rattle.trace.specs.declared.Parsed.{Parsed}
use Rattle.trace.specs.declared.Parsed.TheVariants.{Record, Unknown, Cut}
use Rattle.tool_wave.specs.Probe.{started, tick, restarted, taken, accessed, limited, calm, ahead}
use Rattle.tool_wave.specs.Drawn.{step_to, still}
use Rattle.tool_wave.specs.declared.probe.Probe.{Probe}
use Rattle.tool_wave.specs.declared.Step.{Step}
use Rattle.tool_wave.specs.declared.Stop.{Stop}
use Rattle.tool_wave.specs.declared.Stop.TheVariants as stop
use Rattle.tool_wave.specs.declared.Waves.{Waves}
use Rattle.tool_wave.specs.declared.Turned.{Turned}

abbrev pub begun : Waves
begun = record { at = 0; left = 0; probe = started }

abbrev pub turned : Waves → Result (Option Step) Stop → Turned
turned s o = record { state = s; outcome = o }

abbrev pub told : Probe → Probe → ℕ → Option Step
told p q refusal = cond (still p q refusal) None (Some (step_to p q refusal))

-- From a probe to the next, at a place and with so many clocks left.
abbrev pub moved : ℕ → ℕ → Probe → Probe → ℕ → Turned
moved at left p q refusal = record { state = record { at = at; left = left; probe = q }; outcome = Ok (told p q refusal) }

-- An event whose record ends at a place; of a hold, its levels.
unfoldable pub event_on : Waves → ℕ → Event → Turned
event_on s at Reset = moved at 0 s.probe (restarted s.probe) 0
event_on s at (Hold pins rxd n) = moved at n s.probe (taken s.probe pins rxd) 0
event_on s at (event.Access a) = moved at 0 s.probe (accessed s.probe a).probe (accessed s.probe a).refusal

-- Why an event stops the trace, before it. (Its number is `stops`.)
abbrev pub stop_at : Probe → Event → Option Stop
stop_at p Reset = None
stop_at p (Hold pins rxd n) = cond (limited p n) (Some stop.ClockLimit) None
stop_at p (event.Access a) = None

abbrev pub event_or_stop : Waves → Event → ℕ → Option Stop → Turned
event_or_stop s e n None = event_on s (s.at + n) e
event_or_stop s e n (Some why) = turned s (Err why)

-- How far a record takes the place in the trace.
abbrev pub size_of : Parsed → ℕ
size_of (Record e n) = n
size_of Unknown = 0
size_of Cut = 0

abbrev pub record_on : Waves → Parsed → Turned
record_on s (Record e n) = event_or_stop s e n (stop_at s.probe e)
record_on s Unknown = turned s (Err stop.UnknownKind)
record_on s Cut = turned s (Err stop.CutRecord)

-- So many clocks are calm: all that are left, or else the next may change something.
abbrev pub hold_for : Waves → ℕ → Turned
hold_for s k =
    cond (leb s.left k) (turned (record { at = s.at; left = 0; probe = ahead s.probe s.left }) (Ok None))
    (moved s.at (s.left - k - 1) (ahead s.probe k) (tick (ahead s.probe k)) 0)

unfoldable pub hold_on : Waves → Turned
hold_on s = cond (limited s.probe s.left) (turned s (Err stop.ClockLimit)) (hold_for s (calm s.probe))

unfoldable pub turn : List ℕ → Waves → Turned
turn t s =
    cond (eqb s.left 0)
    (cond (leb (length t) s.at) (turned s (Err stop.End)) (record_on s (parsed (drop s.at t))))
    (hold_on s)
