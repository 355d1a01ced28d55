-- Document 02, L8: the rule for a replay. With a period that is no longer than the rule has it, a replay loses no frame while SCCR0 and SCCR1 stay.
use Rattle.std.specs.Prelude.{Bool, true, false, List, [], ◌∷◌, ◌≡◌, ℕ, ◌<◌, ◌≤◌}
use Rattle.qsm.specs.model.State.{reset_module}
use Rattle.qsm.specs.declared.state.Module.{Module}
use Rattle.qsm.specs.declared.event.Event.{Event}
use Rattle.claims_histories.specs.History.{run, Unbroken, log}
use Rattle.tool_lines.specs.Schedule.{scheduled}
use Rattle.tool_lines.specs.Replay.{events_of}
use Rattle.claims_polling.specs.Rule.{lost_in, waiting, longest, MovingIn, started}

-- The events of what is left of a trace, so many clocks since the last poll and since reset, with the polls' reads put in.
abbrev pub replayed : ℕ → ℕ → ℕ → List ℕ → Module → List Event
replayed period since clock t m = events_of (scheduled period since clock t).acts m

-- From any point on at which nothing waits: 112 x 2 x SCBR clocks (122 with M=1), and 154 (170) where no sampling point moves.
abbrev pub ReplayKept : Type 0
ReplayKept =
    (moves : Bool) (past : List Event) (period since clock : ℕ) (t : List ℕ) → let m : Module = run past reset_module in
    let es : List Event = replayed period since clock t m in
    waiting m ≡ false → since < period → period ≤ longest moves m → Unbroken es m → MovingIn moves es m → lost_in (log es m) ≡ 0

-- There is such a replay: SCBR 1 and RE, and RXD at one for 6 clocks, polled twice.
abbrev pub quiet : List ℕ
quiet = 2 ∷ (0 ∷ (1 ∷ (0 ∷ (6 ∷ []))))

pub record Met : Type 0 where
  pub clear : waiting (started false) ≡ false
  pub within : 3 ≤ longest true (started false)
  pub unbroken : Unbroken (replayed 3 0 0 quiet (started false)) (started false)
  pub moving : MovingIn true (replayed 3 0 0 quiet (started false)) (started false)

pub record Replays : Type 0 where
  pub kept : ReplayKept
  pub met : Met
