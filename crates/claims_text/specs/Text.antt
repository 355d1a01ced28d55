-- A text that `assemble` makes holds of, replayed with polls to a receiver that is ready: its bytes come, in order, and none is lost.
use Rattle.std.specs.Prelude.{Bool, false, List, [], ◌∷◌, ◌≡◌, ℕ, ◌+◌, ◌*◌, ◌/◌, ◌≤◌, ◌<◌, length}
use Rattle.steps.specs.Bits.{bit}
use Rattle.sci.specs.model.Control.{PE}
use Rattle.sci.specs.claims.Overrun.{Mark}
use Rattle.qsm.specs.model.State.{reset_module}
use Rattle.qsm.specs.model.Event.{clock_limit}
use Rattle.qsm.specs.declared.state.Module.{Module}
use Rattle.qsm.specs.declared.event.Event.{Event}
use Rattle.claims_histories.specs.History.{run, log}
use Rattle.claims_polling.specs.Rule.{lost_in, waiting, started}
use Rattle.claims_polling.specs.Replays.{replayed}
use Rattle.tool_assemble.specs.declared.sent.Sent.{Sent}
use Rattle.claims_assembling.specs.Traces.{held, clocks_of}
use Rattle.claims_senders.specs.Fair.{SentFrame}
use Rattle.claims_senders.specs.Rates.{frame_at}
use Rattle.claims_senders.specs.Undamaged.{Undamaged}
use Rattle.claims_through.specs.Through.{Ready, sample_of, bits_in, StaysUndamaged, words_came}

unfoldable pub Bytes : List ℕ → Type 0
Bytes [] = Unit {0}
Bytes (b ∷ bs) = (b < 256) × Bytes bs

-- Low bit first.
abbrev pub bits_of_byte : ℕ → List Bool
bits_of_byte b = bit 0 b ∷ bit 1 b ∷ bit 2 b ∷ bit 3 b ∷ bit 4 b ∷ bit 5 b ∷ bit 6 b ∷ bit 7 b ∷ []

-- Its frames, edges rounded to the nearest clock: bit k of the text begins at clock k * clock / baud.
abbrev pub byte_frame : Sent → ℕ → ℕ → SentFrame
byte_frame s k b = frame_at s.clock s.baud (s.baud / 2) k (bits_of_byte b) 0

unfoldable pub text_frames : Sent → ℕ → List ℕ → List SentFrame
text_frames s k [] = []
text_frames s k (b ∷ bs) = byte_frame s k b ∷ text_frames s (k + 10) bs

-- A receiver that is ready, with 8 data bits and no word waiting; a rate whose edges are in bounds: ten bits last 154 samples and a clock at
-- least, nine 151 less a clock at most; a poll every 148 samples at most; and all clocks within the limit.
pub record InReach (s : Sent) (bs : List ℕ) (period since : ℕ) (m : Module) : Type 0 where
  pub ready : Ready m
  pub clear : waiting m ≡ false
  pub eight : bits_in m ≡ 8
  pub pins : s.pins < 256
  pub some : 0 < s.baud
  pub slow : 154 * sample_of m * s.baud + s.baud ≤ 10 * s.clock
  pub fast : 9 * s.clock + s.baud ≤ 151 * sample_of m * s.baud
  pub within : since < period
  pub close : period ≤ 148 * sample_of m
  pub room : m.clock + clocks_of s (10 * length bs) ≤ clock_limit

-- With SCBR 1 a bit is 32 clocks: A and 0A at 31.5, each edge rounded, polled every 296 clocks.
abbrev pub sender : Sent
sender = record { start = 0; baud = 2; clock = 63; pins = 0 }

abbrev pub text : List ℕ
text = 0x41 ∷ 0x0A ∷ []

pub record Met : Type 0 where
  pub reach : InReach sender text 296 0 (started false)
  -- So, without playing it:
  pub words : words_came (log (replayed 296 0 (started false).clock (held sender 0 text) (started false)) (started false)) ≡ text

pub record TextWords : Type 0 where
  pub words : (past : List Event) (s : Sent) (bs : List ℕ) (period since : ℕ) → let m : Module = run past reset_module in
      Bytes bs → InReach s bs period since m →
      let h : List Mark = log (replayed period since m.clock (held s 0 bs) m) m in
      (words_came h ≡ bs) × (lost_in h ≡ 0)
  -- Without parity NF, FE and PF are clear after each event of it, and the figure beside SCDR is 0.
  pub undamaged : (past : List Event) (s : Sent) (bs : List ℕ) (period since : ℕ) → let m : Module = run past reset_module in
      InReach s bs period since m → PE m.sci.sccr1 ≡ false → Undamaged m.sci →
      StaysUndamaged (replayed period since m.clock (held s 0 bs) m) m
  pub met : Met
