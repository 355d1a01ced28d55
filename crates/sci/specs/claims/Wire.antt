-- Demand 2, clock by clock: two serial halves, the one's TXD at the other's RXD.
use Rattle.std.specs.Prelude.{Bool, true, false, List, [], ◌∷◌, ◌++◌, ◌≡◌, ℕ, suc, ◌+◌, ◌*◌, ◌%◌, ◌^◌, ◌≤◌, ◌<◌}
use Rattle.sci.specs.model.Flags.{RDRF, TDRE}
use Rattle.sci.specs.model.Status.{has}
use Rattle.sci.specs.model.Control.{SCBR, M, TE, RE, bits_of, frame_samples, settings}
use Rattle.sci.specs.model.Framer.{searching}
use Rattle.sci.specs.model.Receiver.{three}
use Rattle.sci.specs.model.Transmitter.{free, begins_frame}
use Rattle.sci.specs.model.Serial.{reset_sci, due, clocked, status_read, data_read, loaded, wrote_sccr1, txd_driven, txd}
use Rattle.sci.specs.claims.Levels.{end_sample}
use Rattle.sci.specs.claims.Line.{Op, read}
use Rattle.sci.specs.claims.History as history
use Rattle.sci.specs.claims.Link.{data_bits, NoError, InScdr}
use Rattle.sci.specs.claims.BackToBack.{reads_both}
use Rattle.sci.specs.declared.receiver.Received.{Received as Heard}
use Rattle.sci.specs.declared.serial.Sci.{Sci}

pub record Wired : Type 0 where
  pub sender : Sci
  pub receiver : Sci

-- Reads of SCSR and SCDR; a write of SCDR's low byte, with its upper byte or not; a write of SCCR1 by its bytes.
pub data Access : Type 0 where
  read_status : Access
  read_data : Access
  write_data : ℕ → Bool → Access
  write_control : ℕ → Bool → Bool → Access

unfoldable pub accessed : Access → Sci → Sci
accessed read_status s = status_read s
accessed read_data s = data_read s
accessed (write_data v upper) s = loaded s v upper
accessed (write_control v upper lower) s = wrote_sccr1 s v upper lower

-- A clock of both, with a level at the sender's RXD, or an access at either.
pub data Step : Type 0 where
  clock : Bool → Step
  at_sender : Access → Step
  at_receiver : Access → Step

-- The sender's TXD after its clock k is the receiver's RXD in its clock k + 1.
unfoldable pub step : Step → Wired → Wired
step (clock x) q = record { sender = clocked q.sender x; receiver = clocked q.receiver (txd q.sender) }
step (at_sender a) q = record { sender = accessed a q.sender; receiver = q.receiver }
step (at_receiver a) q = record { sender = q.sender; receiver = accessed a q.receiver }

unfoldable pub steps : List Step → Wired → Wired
steps [] q = q
steps (e ∷ es) q = steps es (step e q)

unfoldable pub clocks_in : List Step → ℕ
clocks_in [] = 0
clocks_in (clock x ∷ es) = suc (clocks_in es)
clocks_in (at_sender a ∷ es) = clocks_in es
clocks_in (at_receiver a ∷ es) = clocks_in es

-- The reads at the receiver.
unfoldable pub reads_of : List Step → List Op
reads_of [] = []
reads_of (clock x ∷ es) = reads_of es
reads_of (at_sender a ∷ es) = reads_of es
reads_of (at_receiver read_status ∷ es) = read true false ∷ reads_of es
reads_of (at_receiver read_data ∷ es) = read false true ∷ reads_of es
reads_of (at_receiver (write_data v upper) ∷ es) = reads_of es
reads_of (at_receiver (write_control v upper lower) ∷ es) = reads_of es

abbrev pub hearing : Sci → Heard
hearing s = record { receiver = s.receiver; status = s.status }

-- Neither is reconfigured: the settings stay, and the receiver's RE and RWU. (Its interrupt enables and TE may change, and the sender's.)
pub record Same (s r : Sci) : Type 0 where
  pub set : settings r.sccr1 ≡ settings s.sccr1
  pub on : RE r.sccr1 ≡ RE s.sccr1
  pub asleep : r.receiver.asleep ≡ s.receiver.asleep

unfoldable pub Unchanged : List Step → Wired → Type 0
Unchanged [] q = Unit {0}
Unchanged (clock x ∷ es) q = Unchanged es (step (clock x) q)
Unchanged (at_sender a ∷ es) q =
    (settings (accessed a q.sender).sccr1 ≡ settings q.sender.sccr1) × Unchanged es (step (at_sender a) q)
Unchanged (at_receiver a ∷ es) q = Same q.receiver (accessed a q.receiver) × Unchanged es (step (at_receiver a) q)

-- The same rate and settings; the receiver on, awake, searching after three ones, with neither RDRF nor an error flag set. (IDLE may be.)
pub record Matched (q : Wired) : Type 0 where
  pub rate : SCBR q.sender.sccr0 ≡ SCBR q.receiver.sccr0
  pub same : settings q.sender.sccr1 ≡ settings q.receiver.sccr1
  pub on : RE q.receiver.sccr1 ≡ true
  pub awake : q.receiver.receiver.asleep ≡ false
  pub searches : q.receiver.receiver.framer ≡ searching
  pub ones : three q.receiver.receiver ≡ true
  pub rdrf : has q.receiver.status RDRF ≡ false
  pub errors : NoError q.receiver.status

-- The sender's TXD rests at one before each of these clocks.
unfoldable pub Rests : List Step → Wired → Type 0
Rests [] q = Unit {0}
Rests (clock x ∷ es) q = (txd q.sender ≡ true) × Rests es (step (clock x) q)
Rests (at_sender a ∷ es) q = Rests es (step (at_sender a) q)
Rests (at_receiver a ∷ es) q = Rests es (step (at_receiver a) q)

-- At the next clock the sender takes a sample and begins a frame.
pub record Begins (q : Wired) : Type 0 where
  pub sample : due q.sender ≡ true
  pub frame : begins_frame q.sender.transmitter q.sender.status q.sender.sccr1 ≡ true

-- A frame on the wire: the clock at which it begins, the steps from there to its last sample at the receiver, and that clock.
pub record Frame : Type 0 where
  pub first : Bool
  pub later : List Step
  pub last : Bool

abbrev pub begun : Frame → Wired → Wired
begun f q = step (clock f.first) q

abbrev pub ended : Frame → Wired → Wired
ended f q = step (clock f.last) (steps f.later (begun f q))

-- The clocks of a sample, and the data bits of a frame.
abbrev pub period : Wired → ℕ
period q = 2 * SCBR q.sender.sccr0

abbrev pub width : Wired → ℕ
width q = bits_of (M q.sender.sccr1)

-- From the receiver's count when the frame has begun, its last sample is so many clocks away.
pub record Sends (f : Frame) (q : Wired) : Type 0 where
  pub begins : Begins q
  pub unchanged : Unchanged f.later (begun f q)
  pub last : suc (clocks_in f.later) + (begun f q).receiver.prescaler ≡ suc (end_sample (width q)) * period q

-- The data bits sent are in SCDR, with no error flag.
abbrev pub Received : Frame → Wired → Type 0
Received f q =
    InScdr (data_bits q.sender.sccr1 q.sender.transmitter.scdr % 2 ^ width q) (hearing (ended f q).receiver)

-- Whatever the counts of the two prescalers. The receiver is ready when the frame has begun: the level in that clock is still the one
-- before the start bit, and may be the last of its three ones.
abbrev pub Arrives : Type 0
Arrives = (q : Wired) (f : Frame) → Sends f q → Matched (begun f q) → Received f q

-- While TXD rests at one a receiver that is ready stays so, whatever is read and written.
abbrev pub Waits : Type 0
Waits = (q : Wired) (es : List Step) → Matched q → Unchanged es q → Rests es q → Matched (steps es q)

-- Words one after another, with or without pause: what happens until a word's frame begins, with TXD at one, and the frame.
pub record Word : Type 0 where
  pub idle : List Step
  pub frame : Frame

pub record Follows (u : Word) (q : Wired) : Type 0 where
  pub unchanged : Unchanged u.idle q
  pub rests : Rests u.idle q
  pub sends : Sends u.frame (steps u.idle q)

unfoldable pub AllSent : List Word → Wired → Type 0
AllSent [] q = Unit {0}
AllSent (u ∷ us) q = Follows u q × AllSent us (ended u.frame (steps u.idle q))

-- Status, then data, is read between a frame's end and the next one's.
unfoldable pub AllRead : List Word → Type 0
AllRead [] = Unit {0}
AllRead (u ∷ us) = (reads_both (reads_of u.idle ++ reads_of u.frame.later) ≡ true) × AllRead us

unfoldable pub AllReceived : List Word → Wired → Type 0
AllReceived [] q = Unit {0}
AllReceived (u ∷ us) q = Received u.frame (steps u.idle q) × AllReceived us (ended u.frame (steps u.idle q))

abbrev pub ArriveInTurn : Type 0
ArriveInTurn =
    (q : Wired) (f : Frame) (us : List Word) → Sends f q → Matched (begun f q) → AllSent us (ended f q) → AllRead us →
    Received f q × AllReceived us (ended f q)

-- Since a reset TXD is at one wherever the shifter is free: a frame ends with its stop bit, a preamble shows ones, and nothing else runs.
-- So it is at one when a frame begins.
abbrev pub FreeAtOne : Type 0
FreeAtOne = (es : List history.Step) → free (history.run es reset_sci).transmitter ≡ true → txd (history.run es reset_sci) ≡ true

-- Without pause: from the stop bit on TXD rests at one, until at the frame's last clock its last sample is due and the shifter is free.
pub record StopBit (es : List Step) (q : Wired) : Type 0 where
  pub rests : Rests es q
  pub one : txd (steps es q).sender ≡ true
  pub sample : due (steps es q).sender ≡ true
  pub last : (steps es q).sender.transmitter.left ≡ 1
  -- A word that waits by then is the next frame's, if TE is set and no preamble goes before.
  pub next : has q.sender.status TDRE ≡ false → TE (steps es q).sender.sccr1 ≡ true →
      (steps es q).sender.transmitter.preamble ≡ false → Begins (steps es q)

abbrev pub StopBitRests : Type 0
StopBitRests =
    (q : Wired) (x : Bool) (es later : List Step) → Begins q → 16 * suc (width q) * period q ≤ clocks_in es →
    suc (clocks_in es + clocks_in later) ≡ frame_samples (width q) * period q → StopBit later (steps es (step (clock x) q))

-- From the clock at which it begins to its last clock a frame drives TXD.
abbrev pub FrameDrives : Type 0
FrameDrives =
    (q : Wired) (x : Bool) (es : List Step) → Begins q → clocks_in es < frame_samples (width q) * period q →
    txd_driven (steps es (step (clock x) q)).sender ≡ true
