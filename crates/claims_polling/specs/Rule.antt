-- Document 02, L8: the rule that a shop can go by. While SCCR0 and SCCR1 stay, polls that are close enough lose no frame.
use Rattle.std.specs.Prelude.{Bool, true, false, cond, List, [], ◌∷◌, ◌++◌, ◌≡◌, ℕ, suc, ◌+◌, ◌-◌, ◌*◌, ◌≤◌, length, take}
use Rattle.sci.specs.model.Control.{SCBR, M, bits_of}
use Rattle.sci.specs.model.Receiver.{full}
use Rattle.sci.specs.claims.Levels.{frame_levels, low_bits}
use Rattle.sci.specs.claims.Overrun.{Mark, frame_lost, word_came, status_read, word_delivered, was_reset}
use Rattle.qsm.specs.model.State.{reset_module}
use Rattle.qsm.specs.declared.state.Module.{Module}
use Rattle.qsm.specs.declared.event.Access.TheVariants.{Write}
use Rattle.qsm.specs.declared.event.Event.{Event}
use Rattle.qsm.specs.declared.event.Event.TheVariants.{Reset, Hold}
use Rattle.qsm.specs.declared.event.Event.TheVariants as event
use Rattle.claims_histories.specs.History.{run, Unbroken, ops, log}
use Rattle.claims_histories.specs.Witness.{rate, samples}
use Rattle.tool_lines.specs.Poll.{poll_events}
use Rattle.claims_polling.specs.Spacing.{apart, Moving, shortest}

-- The clocks of a list of events. (Of a hold refused 10 none is played: the fewer.)
abbrev pub clocks_in : List Event → ℕ
clocks_in [] = 0
clocks_in (Reset ∷ es) = clocks_in es
clocks_in (Hold pins rxd n ∷ es) = n + clocks_in es
clocks_in (event.Access a ∷ es) = clocks_in es

-- The frames lost, by demand 3's marks.
abbrev pub lost_in : List Mark → ℕ
lost_in [] = 0
lost_in (frame_lost raises ∷ h) = suc (lost_in h)
lost_in (word_came w ∷ h) = lost_in h
lost_in (status_read ∷ h) = lost_in h
lost_in (word_delivered w ∷ h) = lost_in h
lost_in (was_reset ∷ h) = lost_in h

-- RDRF or OR is set: a frame that ended now would be lost.
abbrev pub waiting : Module → Bool
waiting m = full m.sci.status

-- Samples of 2 x SCBR clocks each, as many as lie between the ends of two frames at least.
abbrev pub longest : Bool → Module → ℕ
longest moves m = apart moves (bits_of (M m.sci.sccr1)) * (2 * SCBR m.sci.sccr0)

abbrev pub MovingIn : Bool → List Event → Module → Type 0
MovingIn moves es m = Moving moves (bits_of (M m.sci.sccr1)) (ops es m) m.sci.receiver

-- From nothing waiting on, in so many clocks no frame is lost, with or without reads; neither a reset nor a write to SCCR0 or SCCR1 among them.
abbrev pub Stretch : Type 0
Stretch =
    (moves : Bool) (past es : List Event) → let m : Module = run past reset_module in
    waiting m ≡ false → Unbroken es m → clocks_in es ≤ longest moves m → MovingIn moves es m → lost_in (log es m) ≡ 0

-- A poll reads status, and data if RDRF or OR showed, as supervisor words. It leaves nothing waiting, whatever the state.
abbrev pub Clears : Type 0
Clears = (m : Module) → waiting (run (poll_events m) m) ≡ false

-- Stretches of events, a poll after each; and how many clocks each of them has at most.
unfoldable pub polled_after : List (List Event) → Module → List Event
polled_after [] m = []
polled_after (es ∷ ess) m =
    let left : Module = run es m in
    es ++ (poll_events left ++ polled_after ess (run (poll_events left) left))

abbrev pub Within : ℕ → List (List Event) → Type 0
Within period [] = Unit {0}
Within period (es ∷ ess) = (clocks_in es ≤ period) × Within period ess

-- So a receiver that is polled at least that often loses no frame, for as long as SCCR0 and SCCR1 stay.
abbrev pub Kept : Type 0
Kept =
    (moves : Bool) (past : List Event) (ess : List (List Event)) → let m : Module = run past reset_module in
    waiting m ≡ false → Unbroken (polled_after ess m) m → Within (longest moves m) ess → MovingIn moves (polled_after ess m) m →
    lost_in (log (polled_after ess m) m) ≡ 0

-- And polled one clock later it can lose one. SCBR 1, so two clocks a sample; RE and M; three ones.
abbrev pub on : Bool → List Event
on m = rate ∷ (event.Access (Write true 2 0x0A (cond m 0x0204 0x0004)) ∷ (samples 3 true ∷ []))

abbrev pub levels : List Bool → List Event
levels [] = []
levels (x ∷ xs) = Hold 0 x 2 ∷ levels xs

-- A frame, polled one clock before its end; then that clock, and a frame of the same samples.
abbrev pub late : List Bool → List (List Event)
late xs = (levels (take (length xs - 1) xs) ++ (Hold 0 true 1 ∷ [])) ∷ ((Hold 0 true 1 ∷ levels xs) ∷ [])

abbrev pub started : Bool → Module
started m = run (on m) reset_module

pub record Loses (moves m : Bool) (xs : List Bool) : Type 0 where
  pub clear : waiting (started m) ≡ false
  pub unbroken : Unbroken (polled_after (late xs) (started m)) (started m)
  pub within : Within (suc (longest moves (started m))) (late xs)
  pub moving : MovingIn moves (polled_after (late xs) (started m)) (started m)
  pub loses : lost_in (log (polled_after (late xs) (started m)) (started m)) ≡ 1

pub record Rule : Type 0 where
  pub stretch : Stretch
  pub clears : Clears
  pub kept : Kept
  -- With SCBR 1 at 225 and 245 clocks, and where no point moves at 309 and 341.
  pub loses : Loses true false (shortest 8) × Loses true true (shortest 9)
      × Loses false false (take 154 (frame_levels (low_bits 8 0xFF))) × Loses false true (take 170 (frame_levels (low_bits 9 0x1FF)))
