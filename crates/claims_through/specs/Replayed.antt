-- A trace of holds that is replayed with polls: a fair sender's words come, and none is lost.
use Rattle.std.specs.Prelude.{Bool, true, false, cond, List, [], ◌∷◌, ◌++◌, ◌≡◌, ℕ, zero, suc, ◌+◌, ◌*◌, ◌<◌, ◌≤◌, eqb, length, drop, replicate}
use Rattle.qsm.specs.model.State.{reset_module}
use Rattle.qsm.specs.model.Event.{clock_limit}
use Rattle.qsm.specs.declared.state.Module.{Module}
use Rattle.qsm.specs.declared.event.Event.{Event}
use Rattle.qsm.specs.declared.event.Event.TheVariants.{Reset, Hold}
use Rattle.qsm.specs.declared.event.Event.TheVariants as event
use Rattle.trace.specs.Trace.{parsed}
use Rattle.trace.specs.declared.Parsed.{Parsed}
use Rattle.trace.specs.declared.Parsed.TheVariants.{Record, Unknown, Cut}
use Rattle.tool_lines.specs.Schedule.{clock_after, stops}
use Rattle.claims_histories.specs.History.{run, log}
use Rattle.claims_histories.specs.Sentence.{rxd_in}
use Rattle.claims_polling.specs.Rule.{lost_in, waiting, clocks_in, started}
use Rattle.claims_polling.specs.Replays.{replayed}
use Rattle.claims_senders.specs.Fair.{Bit, SentFrame, words_sent, line, FairFrames}
use Rattle.claims_senders.specs.Heard.{earliest}
use Rattle.claims_senders.specs.Undamaged.{Undamaged}
use Rattle.claims_through.specs.Through.{StaysAwake, Ready, sample_of, bits_in, words_came}

-- The levels of an event, and of events none of which is refused.
abbrev pub event_levels : Event → List Bool
event_levels Reset = []
event_levels (Hold pins rxd n) = replicate n rxd
event_levels (event.Access a) = []

unfoldable pub held_levels : List Event → List Bool
held_levels [] = []
held_levels (e ∷ es) = event_levels e ++ held_levels es

-- Within the limit of clocks no hold is refused.
abbrev pub AllHeld : Type 0
AllHeld = (es : List Event) (m : Module) → m.clock + clocks_in es ≤ clock_limit → rxd_in es m ≡ held_levels es

-- RXD's levels in what a replay plays of a trace, so many clocks since reset; polls play no part in it.
abbrev pub held_next : (ℕ → List ℕ → List Bool) → ℕ → List ℕ → Parsed → List Bool
held_next on clock t (Record e n) = cond (eqb (stops clock e) 0) (event_levels e ++ on (clock_after clock e) (drop n t)) []
held_next on clock t Unknown = []
held_next on clock t Cut = []

unfoldable pub held_for : ℕ → ℕ → List ℕ → List Bool
held_for zero clock t = []
held_for (suc k) clock t = cond (eqb (length t) 0) [] (held_next (held_for k) clock t (parsed t))

abbrev pub held_in : ℕ → List ℕ → List Bool
held_in clock t = held_for (length t) clock t

-- A hold that is cut for polls leaves RXD's levels as they were, clock by clock.
abbrev pub TraceLevels : Type 0
TraceLevels =
    (period since : ℕ) (t : List ℕ) (m : Module) → since < period →
    rxd_in (replayed period since m.clock t m) m ≡ held_in m.clock t

-- The records of a trace are holds.
abbrev pub holds_next : (List ℕ → Bool) → List ℕ → Parsed → Bool
holds_next on t (Record Reset n) = false
holds_next on t (Record (Hold pins rxd k) n) = on (drop n t)
holds_next on t (Record (event.Access a) n) = false
holds_next on t Unknown = true
holds_next on t Cut = true

unfoldable pub holds_for : ℕ → List ℕ → Bool
holds_for zero t = true
holds_for (suc k) t = cond (eqb (length t) 0) true (holds_next (holds_for k) t (parsed t))

abbrev pub only_holds : List ℕ → Bool
only_holds t = holds_for (length t) t

-- The receiver stays on and awake in a replay of holds.
abbrev pub HoldsStay : Type 0
HoldsStay =
    (period since clock : ℕ) (t : List ℕ) (m : Module) → Ready m → only_holds t ≡ true → StaysAwake (replayed period since clock t m) m

-- From a receiver that is ready on, with a poll every `period` clocks: 148 samples (164 with 9 bits) at most.
abbrev pub HeldThrough : Type 0
HeldThrough =
    (past : List Event) (period since : ℕ) (t : List ℕ) (fs : List SentFrame) → let m : Module = run past reset_module in
    let es : List Event = replayed period since m.clock t m in
    Ready m → waiting m ≡ false → only_holds t ≡ true → held_in m.clock t ≡ line fs → FairFrames (sample_of m) (bits_in m) fs →
    since < period → period ≤ earliest (bits_in m) * sample_of m →
    (words_came (log es m) ≡ words_sent fs) × (lost_in (log es m) ≡ 0)

-- There is such a replay. SCBR 1, RE and three ones; and 41 twice, at 31 clocks a bit for 32, with polls every 296 clocks.
abbrev hold : ℕ → ℕ → List ℕ
hold level clocks = 2 ∷ (0 ∷ (level ∷ (0 ∷ (clocks ∷ []))))

abbrev pub letter : List ℕ
letter = hold 0 31 ++ (hold 1 31 ++ (hold 0 155 ++ (hold 1 31 ++ (hold 0 31 ++ hold 1 31))))

abbrev one : Bit
one = record { level = true; lasts = 31 }

abbrev nil : Bit
nil = record { level = false; lasts = 31 }

abbrev pub sent : SentFrame
sent = record { start = 31; bits = one ∷ nil ∷ nil ∷ nil ∷ nil ∷ nil ∷ one ∷ nil ∷ []; stop = 31 }

pub record Met : Type 0 where
  pub ready : Ready (started false)
  pub clear : waiting (started false) ≡ false
  pub undamaged : Undamaged (started false).sci
  pub only : only_holds (letter ++ letter) ≡ true
  pub levels : held_in (started false).clock (letter ++ letter) ≡ line (sent ∷ sent ∷ [])
  pub fair : FairFrames (sample_of (started false)) (bits_in (started false)) (sent ∷ sent ∷ [])
  pub close : 296 ≤ earliest (bits_in (started false)) * sample_of (started false)
  -- So, without playing it:
  pub words : words_came (log (replayed 296 0 (started false).clock (letter ++ letter) (started false)) (started false)) ≡ 0x41 ∷ 0x41 ∷ []

pub record Replayed : Type 0 where
  pub all_held : AllHeld
  pub trace_levels : TraceLevels
  pub holds_stay : HoldsStay
  pub held_through : HeldThrough
  pub met : Met
