-- Document 02, L8: what is played of a trace, and where the polls fall. After every so many clocks since the start or a reset there is a poll,
-- before whatever follows.
use Rattle.std.specs.Prelude.{Bool, cond, ◌&&◌, List, [], ◌∷◌, ◌++◌, ℕ, zero, suc, ◌+◌, ◌-◌, ◌/◌, ◌%◌, eqb, ltb, length, drop}
use Rattle.qsm.specs.model.Lanes.{in_map, touches}
use Rattle.qsm.specs.model.Decision.{shaped, fits}
use Rattle.qsm.specs.model.Event.{clock_limit}
use Rattle.qsm.specs.declared.event.Access.{Access}
use Rattle.qsm.specs.declared.event.Access.TheVariants.{Read, Write}
use Rattle.qsm.specs.declared.event.Event.{Event}
use Rattle.qsm.specs.declared.event.Event.TheVariants.{Reset, Hold}
use Rattle.qsm.specs.declared.event.Event.TheVariants as event
use Rattle.trace.specs.Trace.{parsed}
use Rattle.trace.specs.declared.Parsed.{Parsed}
use Rattle.trace.specs.declared.Parsed.TheVariants.{Record, Unknown, Cut}

-- An event of the trace, a hold cut where a poll falls; or a poll.
pub data Act : Type 0 where
  plays : Event → Act
  polls : Act

-- An access that passes 1 and 2 and touches SCSR or SCDR: of any width, also a user's.
abbrev pub reaches : Access → Bool
reaches (Read supervisor width offset) = shaped width offset && in_map width offset && touches 0x0C 4 width offset
reaches (Write supervisor width offset value) =
    shaped width offset && fits width value && in_map width offset && touches 0x0C 4 width offset

-- A hold of n clocks that has k polls, so many clocks since the last one: each falls after the clock that completes the period.
unfoldable pub cut : ℕ → ℕ → ℕ → ℕ → Bool → ℕ → List Act
cut zero period since pins rxd n = plays (Hold pins rxd n) ∷ []
cut (suc k) period since pins rxd n =
    plays (Hold pins rxd (period - since))
    ∷ polls
    ∷ cond (eqb (n - (period - since)) 0) [] (cut k period 0 pins rxd (n - (period - since)))

-- What an event is played as, so many clocks since the last poll; how many there are then, and how many since reset.
abbrev pub acts : ℕ → ℕ → Event → List Act
acts period since Reset = plays Reset ∷ []
acts period since (Hold pins rxd n) = cut ((since + n) / period) period since pins rxd n
acts period since (event.Access a) = plays (event.Access a) ∷ []

abbrev pub since_after : ℕ → ℕ → Event → ℕ
since_after period since Reset = 0
since_after period since (Hold pins rxd n) = (since + n) % period
since_after period since (event.Access a) = since

abbrev pub clock_after : ℕ → Event → ℕ
clock_after clock Reset = 0
clock_after clock (Hold pins rxd n) = clock + n
clock_after clock (event.Access a) = clock

-- The refusal that an event stops the replay with, before it, or 0; of a hold before any of its clocks, so many clocks since reset.
abbrev pub stops : ℕ → Event → ℕ
stops clock Reset = 0
stops clock (Hold pins rxd n) = cond (ltb clock_limit (clock + n)) 10 0
stops clock (event.Access a) = cond (reaches a) 3 0

-- What is played, and the refusal that stopped it, or 0 at the end.
pub record Scheduled : Type 0 where
  pub acts : List Act
  pub stop : ℕ

abbrev pub stopped : ℕ → Scheduled
stopped why = record { acts = []; stop = why }

abbrev pub followed : List Act → Scheduled → Scheduled
followed played s = record { acts = played ++ s.acts; stop = s.stop }

-- An event, and what `on` gives after it.
abbrev pub going : (ℕ → ℕ → Scheduled) → ℕ → ℕ → ℕ → Event → Scheduled
going on period since clock e =
    cond (eqb (stops clock e) 0)
    (followed (acts period since e) (on (since_after period since e) (clock_after clock e)))
    (stopped (stops clock e))

-- What comes of the record at the start of t; `on` goes on with what follows it.
abbrev pub next : (ℕ → ℕ → List ℕ → Scheduled) → ℕ → ℕ → ℕ → List ℕ → Parsed → Scheduled
next on period since clock t (Record e n) = going (λ passed now. on passed now (drop n t)) period since clock e
next on period since clock t Unknown = stopped 5
next on period since clock t Cut = stopped 6

-- At most so many records.
unfoldable pub scheduled_for : ℕ → ℕ → ℕ → ℕ → List ℕ → Scheduled
scheduled_for zero period since clock t = stopped 0
scheduled_for (suc k) period since clock t =
    cond (eqb (length t) 0) (stopped 0) (next (scheduled_for k period) period since clock t (parsed t))

-- The trace t, so many clocks since the last poll, and so many since reset. A record has at least one byte, so there are no more records than
-- bytes.
abbrev pub scheduled : ℕ → ℕ → ℕ → List ℕ → Scheduled
scheduled period since clock t = scheduled_for (length t) period since clock t
