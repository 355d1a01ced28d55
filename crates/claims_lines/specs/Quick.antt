-- Document 02, L8: with polls that are close enough no line is dropped for OR.
use Rattle.std.specs.Prelude.{Bool, true, false, List, [], ◌∷◌, ◌++◌, ◌≡◌, ℕ, ◌<◌, ◌≤◌}
use Rattle.qsm.specs.model.State.{reset_module}
use Rattle.claims_histories.specs.History.{run, Unbroken, log}
use Rattle.tool_lines.specs.Schedule.{Act, scheduled}
use Rattle.tool_lines.specs.Gather.{Report, handed, dropped, overrun}
use Rattle.tool_lines.specs.Replay.{events_of, polled_events, lines}
use Rattle.claims_polling.specs.Rule.{lost_in, waiting, longest, MovingIn}
use Rattle.claims_polling.specs.Replays.{replayed}
use Rattle.claims_lines.specs.Witness.{on, hold}

-- None is dropped for that cause.
abbrev pub NotFor : ℕ → List Report → Type 0
NotFor why [] = Unit {0}
NotFor why (handed number characters ∷ rs) = NotFor why rs
NotFor why (dropped number cause ∷ rs) = (cause ≡ why → ⊥) × NotFor why rs

-- A replay that loses no frame drops no line for OR.
abbrev pub NoneLost : Type 0
NoneLost = (period : ℕ) (t : List ℕ) → lost_in (log (polled_events period t) reset_module) ≡ 0 → NotFor overrun (lines period t)

-- What is played of a trace begins with `first`, in which no frame is lost: the writes that set the receiver up. Of the rest v the rule holds: nothing
-- waits, SCCR0 and SCCR1 stay, and the period is no longer than the rule has it.
pub record Ruled (moves : Bool) (period : ℕ) (t : List ℕ) (first : List Act) (since clock : ℕ) (v : List ℕ) : Type 0 where
  pub splits : (scheduled period 0 0 t).acts ≡ first ++ (scheduled period since clock v).acts
  pub kept : lost_in (log (events_of first reset_module) reset_module) ≡ 0
  pub clear : waiting (run (events_of first reset_module) reset_module) ≡ false
  pub within : since < period
  pub close : period ≤ longest moves (run (events_of first reset_module) reset_module)
  pub unbroken : Unbroken (replayed period since clock v (run (events_of first reset_module) reset_module)) (run (events_of first reset_module) reset_module)
  pub moving : MovingIn moves (replayed period since clock v (run (events_of first reset_module) reset_module)) (run (events_of first reset_module) reset_module)

-- Then no frame of the trace is lost, and no line is dropped for OR.
abbrev pub QuickEnough : Type 0
QuickEnough =
    (moves : Bool) (period : ℕ) (t : List ℕ) (first : List Act) (since clock : ℕ) (v : List ℕ) → Ruled moves period t first since clock v →
    (lost_in (log (polled_events period t) reset_module) ≡ 0) × NotFor overrun (lines period t)

-- There are such traces: SCBR 1 and RE, and the line at one, polled every 3 clocks.
pub record Such : Type 0 where
  pub first : List Act
  pub ruled : Ruled true 3 (on ++ hold 1 6) first 0 0 (hold 1 6)

pub record Quick : Type 0 where
  pub none_lost : NoneLost
  pub quick_enough : QuickEnough
  pub such : Such
