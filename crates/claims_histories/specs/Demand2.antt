-- Demand 2 of two modules: what the one sends on pin 7 the other receives, clock by clock, whatever the counts of their prescalers. Its
-- sentence, of one frame, is `Sentence`; here are words in turn, and what makes a receiver ready.
use Rattle.std.specs.Prelude.{Bool, true, false, cond, List, [], ◌∷◌, ◌++◌, ◌≡◌, ℕ, suc, ◌+◌, ◌*◌, ◌%◌, ◌^◌, ◌≤◌}
use Rattle.steps.specs.Bits.{bit}
use Rattle.sci.specs.model.Flags.{TDRE}
use Rattle.sci.specs.model.Status.{has}
use Rattle.sci.specs.model.Control.{SCBR, M, TE, RE, bits_of, frame_samples, settings}
use Rattle.sci.specs.model.Transmitter.{begins_frame}
use Rattle.sci.specs.model.Serial.{due, txd_driven, txd}
use Rattle.sci.specs.claims.Levels.{end_sample}
use Rattle.sci.specs.claims.Line.{Op}
use Rattle.sci.specs.claims.Link.{data_bits, InScdr}
use Rattle.sci.specs.claims.BackToBack.{reads_both}
use Rattle.sci.specs.claims.Wire.{Wired, Matched, hearing}
use Rattle.qsm.specs.model.State.{reset_module}
use Rattle.qsm.specs.model.Event.{passes}
use Rattle.qsm.specs.model.Pins.{outputs, mask, levels}
use Rattle.qsm.specs.declared.state.Module.{Module}
use Rattle.qsm.specs.declared.event.Access.{Access}
use Rattle.qsm.specs.declared.event.Event.{Event}
use Rattle.qsm.specs.declared.event.Event.TheVariants.{Hold}
use Rattle.qsm.specs.declared.event.Event.TheVariants as event
use Rattle.claims_histories.specs.History.{after, run, breaks, event_ops}

pub record Two : Type 0 where
  pub sender : Module
  pub receiver : Module

-- Their serial halves.
abbrev pub halves : Two → Wired
halves q = record { sender = q.sender.sci; receiver = q.receiver.sci }

-- Pin 7 as the answers show it; where the module doesn't drive it, whatever level the wire has.
abbrev pub wire_level : Module → Bool → Bool
wire_level m undriven = cond (bit 7 (mask (outputs m))) (bit 7 (levels (outputs m))) undriven

-- A clock of both: the levels at the pins of each, the sender's RXD, and the level of a wire that isn't driven.
pub record Tick : Type 0 where
  pub pins : ℕ
  pub rxd : Bool
  pub undriven : Bool
  pub pins' : ℕ

-- Or an access at either, refused ones included. Neither is reset.
pub data Moment : Type 0 where
  clock : Tick → Moment
  at_sender : Access → Moment
  at_receiver : Access → Moment

-- The sender's pin 7 after its clock k is the receiver's RXD in its clock k + 1.
unfoldable pub next : Moment → Two → Two
next (clock t) q =
    record {
      sender = after (Hold t.pins t.rxd 1) q.sender;
      receiver = after (Hold t.pins' (wire_level q.sender t.undriven) 1) q.receiver;
    }
next (at_sender a) q = record { sender = after (event.Access a) q.sender; receiver = q.receiver }
next (at_receiver a) q = record { sender = q.sender; receiver = after (event.Access a) q.receiver }

unfoldable pub play : List Moment → Two → Two
play [] q = q
play (e ∷ es) q = play es (next e q)

abbrev pub clocks_in : List Moment → ℕ
clocks_in [] = 0
clocks_in (clock t ∷ es) = suc (clocks_in es)
clocks_in (at_sender a ∷ es) = clocks_in es
clocks_in (at_receiver a ∷ es) = clocks_in es

-- The permitted reads of bytes 0C to 0F at the receiver.
abbrev pub reads_of : List Moment → Two → List Op
reads_of [] q = []
reads_of (clock t ∷ es) q = reads_of es (next (clock t) q)
reads_of (at_sender a ∷ es) q = reads_of es (next (at_sender a) q)
reads_of (at_receiver a ∷ es) q = event_ops (event.Access a) q.receiver ++ reads_of es (next (at_receiver a) q)

-- Neither module's clock is refused 10 (02, L9).
abbrev pub Counts : Two → Type 0
Counts q = (passes q.sender 1 ≡ false) × (passes q.receiver 1 ≡ false)

-- Neither is reconfigured. An access leaves SCBR (all that SCCR0 has), ILT, PT, PE, M and WAKE as they were; enabling a request,
-- or turning the sender's TE, is no reconfiguring.
pub record SameSettings (m left : Module) : Type 0 where
  pub rate : left.sci.sccr0 ≡ m.sci.sccr0
  pub set : settings left.sci.sccr1 ≡ settings m.sci.sccr1

-- At the receiver RE and RWU stay too.
pub record SameReception (m left : Module) : Type 0 where
  pub same : SameSettings m left
  pub on : RE left.sci.sccr1 ≡ RE m.sci.sccr1
  pub asleep : left.sci.receiver.asleep ≡ m.sci.receiver.asleep

-- And no clock is refused.
abbrev pub Unchanged : List Moment → Two → Type 0
Unchanged [] q = Unit {0}
Unchanged (clock t ∷ es) q = Counts q × Unchanged es (next (clock t) q)
Unchanged (at_sender a ∷ es) q = SameSettings q.sender (after (event.Access a) q.sender) × Unchanged es (next (at_sender a) q)
Unchanged (at_receiver a ∷ es) q = SameReception q.receiver (after (event.Access a) q.receiver) × Unchanged es (next (at_receiver a) q)

-- Whatever is no counted write (`History`) reconfigures nothing.
abbrev pub Uncounted : Type 0
Uncounted = (m : Module) (a : Access) → breaks (event.Access a) m ≡ false → SameReception m (after (event.Access a) m)

-- The wire rests at one before each of these clocks, driven or not.
abbrev pub Rests : List Moment → Two → Type 0
Rests [] q = Unit {0}
Rests (clock t ∷ es) q = (wire_level q.sender t.undriven ≡ true) × Rests es (next (clock t) q)
Rests (at_sender a ∷ es) q = Rests es (next (at_sender a) q)
Rests (at_receiver a ∷ es) q = Rests es (next (at_receiver a) q)

-- At the next clock a module takes a sample and begins a frame.
pub record Begins (m : Module) : Type 0 where
  pub sample : due m.sci ≡ true
  pub frame : begins_frame m.sci.transmitter m.sci.status m.sci.sccr1 ≡ true

-- A frame on the wire: the clock at which it begins, what happens from there to its last sample at the receiver, and that clock.
pub record Frame : Type 0 where
  pub first : Tick
  pub later : List Moment
  pub last : Tick

abbrev pub begun : Frame → Two → Two
begun f q = next (clock f.first) q

abbrev pub ended : Frame → Two → Two
ended f q = next (clock f.last) (play f.later (begun f q))

-- The clocks of a sample, and the data bits of a frame.
abbrev pub period : Two → ℕ
period q = 2 * SCBR q.sender.sci.sccr0

abbrev pub width : Two → ℕ
width q = bits_of (M q.sender.sci.sccr1)

-- From the receiver's count when the frame has begun, its last sample is so many clocks away.
pub record Sends (f : Frame) (q : Two) : Type 0 where
  pub begins : Begins q.sender
  pub counts : Counts q
  pub unchanged : Unchanged f.later (begun f q)
  pub counts_last : Counts (play f.later (begun f q))
  pub last : suc (clocks_in f.later) + (begun f q).receiver.sci.prescaler ≡ suc (end_sample (width q)) * period q

-- The data bits sent are in SCDR, with RDRF and no error flag.
abbrev pub Received : Frame → Two → Type 0
Received f q =
    InScdr (data_bits q.sender.sci.sccr1 q.sender.sci.transmitter.scdr % 2 ^ width q)
    (hearing (ended f q).receiver.sci)

-- While the wire rests at one a receiver that is ready stays so, whatever is read and written.
abbrev pub Waits : Type 0
Waits = (q : Two) (es : List Moment) → Matched (halves q) → Unchanged es q → Rests es q → Matched (halves (play es q))

-- Words in turn, with or without pause: what happens until a word's frame begins, with the wire at one, and the frame.
pub record Word : Type 0 where
  pub idle : List Moment
  pub frame : Frame

pub record Follows (u : Word) (q : Two) : Type 0 where
  pub unchanged : Unchanged u.idle q
  pub rests : Rests u.idle q
  pub sends : Sends u.frame (play u.idle q)

abbrev pub AllSent : List Word → Two → Type 0
AllSent [] q = Unit {0}
AllSent (u ∷ us) q = Follows u q × AllSent us (ended u.frame (play u.idle q))

-- Status, then data, is read between a frame's end and the next one's.
abbrev pub AllRead : List Word → Two → Type 0
AllRead [] q = Unit {0}
AllRead (u ∷ us) q =
    (reads_both (reads_of u.idle q ++ reads_of u.frame.later (begun u.frame (play u.idle q))) ≡ true)
    × AllRead us (ended u.frame (play u.idle q))

abbrev pub AllReceived : List Word → Two → Type 0
AllReceived [] q = Unit {0}
AllReceived (u ∷ us) q = Received u.frame (play u.idle q) × AllReceived us (ended u.frame (play u.idle q))

-- The same rate and settings; the receiver on, awake, searching after three ones with no receive flag but IDLE set (`Matched`), when the
-- first frame has begun: the level in that clock is still the one before the start bit, and may be the last of its three ones.
abbrev pub ArriveInTurn : Type 0
ArriveInTurn =
    (q : Two) (f : Frame) (us : List Word) → Sends f q → Matched (halves (begun f q)) → AllSent us (ended f q) →
    AllRead us (ended f q) → Received f q × AllReceived us (ended f q)

-- Without pause: from the stop bit on the wire rests at one, until at the frame's last clock its last sample is due and the shifter is
-- free.
pub record StopBit (es : List Moment) (q : Two) : Type 0 where
  pub rests : Rests es q
  pub one : (undriven : Bool) → wire_level (play es q).sender undriven ≡ true
  -- A word that waits by then is the next frame's, if TE is set and no preamble goes before.
  pub begins : has q.sender.sci.status TDRE ≡ false → TE (play es q).sender.sci.sccr1 ≡ true →
      (play es q).sender.sci.transmitter.preamble ≡ false → Begins (play es q).sender

abbrev pub StopBitRests : Type 0
StopBitRests =
    (q : Two) (t : Tick) (es later : List Moment) → Begins q.sender → Counts q → Unchanged es (next (clock t) q) →
    Unchanged later (play es (next (clock t) q)) → 16 * suc (width q) * period q ≤ clocks_in es →
    suc (clocks_in es + clocks_in later) ≡ frame_samples (width q) * period q → StopBit later (play es (next (clock t) q))

-- While the transmitter drives TXD, pin 7 is driven and shows it.
abbrev pub PinShows : Type 0
PinShows =
    (m : Module) → txd_driven m.sci ≡ true → (bit 7 (mask (outputs m)) ≡ true) × (bit 7 (levels (outputs m)) ≡ txd m.sci)

-- Of every module since its reset: the wire is at one when a frame begins.
abbrev pub BeginsAtOne : Type 0
BeginsAtOne = (es : List Event) (undriven : Bool) → Begins (run es reset_module) → wire_level (run es reset_module) undriven ≡ true

-- And SCCR0 is SCBR: its other bits don't exist.
abbrev pub RateIsAll : Type 0
RateIsAll = (es : List Event) → (run es reset_module).sci.sccr0 ≡ SCBR (run es reset_module).sci.sccr0

-- Two modules since their resets.
abbrev pub since : List Event → List Event → Two
since past past' = record { sender = run past reset_module; receiver = run past' reset_module }

pub record Demand2 : Type 0 where
  pub waits : Waits
  pub uncounted : Uncounted
  pub in_turn : ArriveInTurn
  pub stop_bit : StopBitRests
  pub pin : PinShows
  pub at_one : BeginsAtOne
  pub rate_is_all : RateIsAll
  -- What is asked of the two can be met, by two words in turn.
  pub met : (past past' : List Event) × (f : Frame) × (u : Word) × Sends f (since past past')
      × Matched (halves (begun f (since past past'))) × AllSent (u ∷ []) (ended f (since past past'))
      × AllRead (u ∷ []) (ended f (since past past'))
