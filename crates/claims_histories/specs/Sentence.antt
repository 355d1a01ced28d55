-- Demand 2 as one claim of two modules with histories of their own (00.D2.2 to 00.D2.4): what the one sends in a frame the other takes, bit for
-- bit and with no error shown, if it is ready for it and both keep their settings.
use Rattle.std.specs.Prelude.{Bool, true, false, cond, List, [], ◌∷◌, ◌++◌, ◌≡◌, ℕ, zero, suc, ◌+◌, ◌-◌, ◌*◌, ◌%◌, ◌^◌, length, replicate}
use Rattle.std.specs.Int.Count.{ones}
use Rattle.steps.specs.Bits.{bit, digit}
use Rattle.sci.specs.model.Flags.{RDRF, receive_flags, flag, common}
use Rattle.sci.specs.model.Control.{SCBR, PT, PE, M, RE, settings}
use Rattle.sci.specs.model.Framer.{searching}
use Rattle.sci.specs.model.Receiver.{three}
use Rattle.sci.specs.claims.Line.{shown, no_flag}
use Rattle.sci.specs.claims.Overrun.{Mark, frame_lost, word_came, status_read, word_delivered, was_reset}
use Rattle.qsm.specs.model.State.{reset_module}
use Rattle.qsm.specs.model.Pins.{outputs, mask, levels}
use Rattle.qsm.specs.model.Decision.{permits, decide_read}
use Rattle.qsm.specs.model.Event.{passes, held, clock_module, step}
use Rattle.qsm.specs.declared.state.Module.{Module}
use Rattle.qsm.specs.declared.pins.Outputs.{Outputs}
use Rattle.qsm.specs.declared.event.Event.{Event}
use Rattle.qsm.specs.declared.event.Event.TheVariants.{Reset, Hold}
use Rattle.qsm.specs.declared.event.Event.TheVariants as event
use Rattle.claims_histories.specs.History.{after, run, reads_status, reads_data, played_clocks, log}
use Rattle.claims_histories.specs.Demand2.{SameSettings, SameReception, Begins}

-- The wire. What a module drives before each clock that its list plays, and RXD's level in each; a hold that is refused plays none.
abbrev pub clock_outputs : ℕ → Bool → Module → List Outputs
clock_outputs zero rxd m = []
clock_outputs (suc n) rxd m = outputs m ∷ clock_outputs n rxd (clock_module rxd m)

abbrev pub event_outputs : Event → Module → List Outputs
event_outputs Reset m = []
event_outputs (Hold pins rxd n) m = clock_outputs (played_clocks m n) rxd (held m pins)
event_outputs (event.Access a) m = []

unfoldable pub driven : List Event → Module → List Outputs
driven [] m = []
driven (e ∷ es) m = event_outputs e m ++ driven es (after e m)

abbrev pub event_rxd : Event → Module → List Bool
event_rxd Reset m = []
event_rxd (Hold pins rxd n) m = replicate (played_clocks m n) rxd
event_rxd (event.Access a) m = []

unfoldable pub rxd_in : List Event → Module → List Bool
rxd_in [] m = []
rxd_in (e ∷ es) m = event_rxd e m ++ rxd_in es (after e m)

-- Clock by clock RXD is pin 7 as the answers show it; where that isn't driven, any level.
abbrev pub Carries : List Outputs → List Bool → Type 0
Carries [] [] = Unit {0}
Carries [] (x ∷ xs) = ⊥
Carries (o ∷ os) [] = ⊥
Carries (o ∷ os) (x ∷ xs) = (bit 7 (mask o) ≡ true → x ≡ bit 7 (levels o)) × Carries os xs

-- Neither reset nor reconfigured, by any event of a list: of the sender SCBR, ILT, PT, PE, M and WAKE stay, of the receiver RE and RWU too.
-- A hold changes none of them.
abbrev pub SenderKeeps : Event → Module → Type 0
SenderKeeps Reset m = ⊥
SenderKeeps (Hold pins rxd n) m = Unit {0}
SenderKeeps (event.Access a) m = SameSettings m (after (event.Access a) m)

abbrev pub SenderStays : List Event → Module → Type 0
SenderStays [] m = Unit {0}
SenderStays (e ∷ es) m = SenderKeeps e m × SenderStays es (after e m)

abbrev pub ReceiverKeeps : Event → Module → Type 0
ReceiverKeeps Reset m = ⊥
ReceiverKeeps (Hold pins rxd n) m = Unit {0}
ReceiverKeeps (event.Access a) m = SameReception m (after (event.Access a) m)

abbrev pub ReceiverStays : List Event → Module → Type 0
ReceiverStays [] m = Unit {0}
ReceiverStays (e ∷ es) m = ReceiverKeeps e m × ReceiverStays es (after e m)

-- Two modules, each with its own list of events since its reset, holds of any length in both.
pub record Exchange : Type 0 where
  -- The sender's up to the clock in which the frame starts; that clock, a hold; and its events from there on.
  pub past : List Event
  pub pins : ℕ
  pub rxd : Bool
  pub sending : List Event
  -- The receiver's up to the end of that clock; its events from there on; and the hold whose last clock is the frame's last sample.
  pub past' : List Event
  pub meanwhile : List Event
  pub pins' : ℕ
  pub rxd' : Bool
  pub more : ℕ

module _ (h : Exchange) where
  abbrev pub sender : Module
  sender = run h.past reset_module

  abbrev pub starts : Event
  starts = Hold h.pins h.rxd 1

  abbrev pub receiver : Module
  receiver = run h.past' reset_module

  abbrev pub ends : Event
  ends = Hold h.pins' h.rxd' (suc h.more)

  abbrev pub hearing : List Event
  hearing = h.meanwhile ++ (ends ∷ [])

  abbrev pub ended : Module
  ended = run hearing receiver

  -- The data bits sent: the low 8 (M=0) or 9 of the sender's SCDR as the frame starts; with PE the top one of them gives way to the parity
  -- bit, which makes the ones among them even (PT=0) or odd in number.
  abbrev pub control : ℕ
  control = sender.sci.sccr1

  abbrev pub width : ℕ
  width = cond (M control) 9 8

  abbrev pub lastSample : ℕ
  lastSample = cond (M control) 170 154

  abbrev pub written : ℕ
  written = sender.sci.transmitter.scdr

  abbrev pub bitsSent : ℕ
  bitsSent =
      let low : ℕ = written % 2 ^ (width - 1) in
      cond (PE control) (low + (ones low + digit (PT control)) % 2 * 2 ^ (width - 1)) (written % 2 ^ width)

-- What the sentence asks.
pub record Asked (h : Exchange) : Type 0 where
  -- The frame starts in the sender's next clock, which is not refused 10.
  pub frame : Begins (sender h)
  pub played : passes (sender h) 1 ≡ false
  -- The receiver is on, and not asleep, when the frame has started.
  pub on : RE (receiver h).sci.sccr1 ≡ true
  pub awake : (receiver h).sci.receiver.asleep ≡ false
  -- One rate, and the same settings.
  pub rate : SCBR (sender h).sci.sccr0 ≡ SCBR (receiver h).sci.sccr0
  pub same : settings (sender h).sci.sccr1 ≡ settings (receiver h).sci.sccr1
  -- It searches, and the last three samples were ones.
  pub searches : (receiver h).sci.receiver.framer ≡ searching
  pub ones : three (receiver h).sci.receiver ≡ true
  -- None of the six receive flags is set.
  pub no_receive_flag : shown (receiver h).sci.status ≡ no_flag
  -- Neither is reset, nor are its settings changed.
  pub sender_stays : SenderStays h.sending (after (starts h) (sender h))
  pub receiver_stays : ReceiverStays h.meanwhile (receiver h)
  -- The wire between them, from when the frame has started to its end: sample 154 (M=0) or 170 of the receiver (K4, K5), at 2 x SCBR clocks
  -- each, of which its prescaler has counted some already. The hold that ends there is not refused 10.
  pub wire : Carries (driven h.sending (after (starts h) (sender h))) (rxd_in (hearing h) (receiver h))
  pub whole : length (rxd_in (hearing h) (receiver h)) + (receiver h).sci.prescaler ≡ lastSample h * (2 * SCBR (receiver h).sci.sccr0)
  pub played' : passes (run h.meanwhile (receiver h)) (suc h.more) ≡ false

-- The marks of words, without status reads: words that come, frames lost, words delivered, resets.
abbrev pub word_marks : List Mark → List Mark
word_marks [] = []
word_marks (frame_lost raises ∷ l) = frame_lost raises ∷ word_marks l
word_marks (word_came w ∷ l) = word_came w ∷ word_marks l
word_marks (status_read ∷ l) = word_marks l
word_marks (word_delivered w ∷ l) = word_delivered w ∷ word_marks l
word_marks (was_reset ∷ l) = was_reset ∷ word_marks l

-- What the firmware gets by permitted reads of a module: the status word has RDRF and no other receive flag, the data word is w, and with it
-- the word is delivered.
pub record Reads (w : ℕ) (m : Module) (supervisor supervisor' : Bool) : Type 0 where
  pub status : common (flag (step m (reads_status supervisor)).answer.value) receive_flags ≡ RDRF
  pub word : (step (after (reads_status supervisor) m) (reads_data supervisor')).answer.value ≡ w
  pub delivered : log (reads_status supervisor ∷ (reads_data supervisor' ∷ [])) m ≡ status_read ∷ (word_delivered w ∷ [])

-- What it promises.
pub record Arrived (h : Exchange) : Type 0 where
  -- SCDR has the bits that were sent.
  pub word : (ended h).sci.receiver.scdr ≡ bitsSent h
  -- Of the six receive flags RDRF alone is set. The noise figure is 0.
  pub flags : shown (ended h).sci.status ≡ RDRF
  pub noise : (ended h).sci.receiver.noise ≡ 0
  -- It is the one frame that came, and none was lost.
  pub alone : word_marks (log (hearing h) (receiver h)) ≡ word_came (bitsSent h) ∷ []
  -- And so it is read.
  pub reads : (supervisor supervisor' : Bool) → permits (decide_read (ended h) supervisor 2 0x0C) ≡ true →
      permits (decide_read (after (reads_status supervisor) (ended h)) supervisor' 2 0x0E) ≡ true →
      Reads (bitsSent h) (ended h) supervisor supervisor'

abbrev pub Sentence : Type 0
Sentence = (h : Exchange) → Asked h → Arrived h

-- What is asked can be met: the word 55 (hexadecimal).
abbrev pub CanArrive : Type 0
CanArrive = (h : Exchange) × Asked h × (bitsSent h ≡ 0x55)
