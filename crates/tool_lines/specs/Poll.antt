-- Document 02, L8: a poll. Status is read, and data if RDRF or OR showed, as supervisor words.
use Rattle.std.specs.Prelude.{Bool, true, cond, ◌||◌, List, [], ◌∷◌, ℕ}
use Rattle.steps.specs.Bits.{bit}
use Rattle.qsm.specs.model.Event.{does}
use Rattle.qsm.specs.claims.StatusFlags.{RDRF, OR, SCI, place, read_at, status}
use Rattle.qsm.specs.declared.state.Module.{Module}
use Rattle.qsm.specs.declared.event.Access.TheVariants.{Read}
use Rattle.qsm.specs.declared.event.Event.{Event}
use Rattle.qsm.specs.declared.event.Event.TheVariants as event
use Rattle.tool_lines.specs.declared.poll.Polled.{Polled}

abbrev pub status_read : Event
status_read = event.Access (Read true 2 0x0C)

abbrev pub data_read : Event
data_read = event.Access (Read true 2 0x0E)

-- RDRF or OR stands in a status that was read.
abbrev pub calls : ℕ → Bool
calls shown = bit (place RDRF) shown || bit (place OR) shown

-- The reads of a poll.
abbrev pub poll_events : Module → List Event
poll_events m = status_read ∷ cond (calls (status m SCI)) (data_read ∷ []) []

-- The module after the status read.
abbrev pub looked : Module → Module
looked m = (does m status_read).state

-- Data is read or not: what that leaves, the status that was shown, and the word that is read, 0 where none is.
abbrev pub taking : Module → ℕ → Bool → Polled
taking m shown reading =
    cond reading (record { state = (does m data_read).state; status = shown; word = read_at m 2 0x0E })
    (record { state = m; status = shown; word = 0 })

-- What a poll leaves and shows.
unfoldable pub polled : Module → Polled
polled m = taking (looked m) (status m SCI) (calls (status m SCI))
