-- Demand 2, sample by sample: the frame that a transmitter makes of its data register is the word that a ready receiver then has in SCDR.
use Rattle.std.specs.Prelude.{Bool, true, false, List, [], ◌∷◌, ◌++◌, ◌≡◌, ℕ, suc, ◌%◌, ◌^◌, ◌<◌, length, take}
use Rattle.sci.specs.model.Flags.{PF, FE, NF, OR, IDLE, RDRF}
use Rattle.sci.specs.model.Status.{has}
use Rattle.sci.specs.model.Control.{PT, PE, M, bits_of, frame_samples, settings}
use Rattle.sci.specs.model.Bits.{parity_bit}
use Rattle.sci.specs.model.Framer.{searching, ends, frame_of}
use Rattle.sci.specs.model.Receiver.{three}
use Rattle.sci.specs.model.Transmitter.{level, data_sent, frame_bits, begins_frame, sent}
use Rattle.sci.specs.claims.Line.{Op, sample, read, act, acts}
use Rattle.sci.specs.claims.Levels.{low_bits, value, frame_levels, framer_at, end_sample}
use Rattle.sci.specs.declared.status.Status.{Status}
use Rattle.sci.specs.declared.receiver.Received.{Received}
use Rattle.sci.specs.declared.transmitter.Transmitter.{Transmitter}

-- The receiver's part. The frame of these n bits ends at its sample `end_sample n` and not before, with the bits for its word, no noise,
-- and a stop bit of one.
pub record FrameHeard (n : ℕ) (bits : List Bool) : Type 0 where
  pub before : (k : ℕ) → k < end_sample n → ends (framer_at n bits k) ≡ false
  pub last : ends (framer_at n bits (end_sample n)) ≡ true
  pub frame : frame_of (framer_at n bits (end_sample n)) true ≡ record { word = value bits; noise = 0; stop = true }

-- Any number of bits, any bits.
abbrev pub FramesHeard : Type 0
FramesHeard = (bits : List Bool) → FrameHeard (length bits) bits

-- The transmitter's part. Before a sample the firmware may have changed all but the shifter: data written, TE cleared, status read.
pub record Around : Type 0 where
  pub scdr : ℕ
  pub preamble : Bool
  pub status : Status
  pub sccr1 : ℕ

abbrev pub sent_around : Around → Transmitter → Transmitter
sent_around a t =
    (sent (record { scdr = a.scdr; preamble = a.preamble; shift = t.shift; left = t.left }) a.status a.sccr1).transmitter

-- The level now, and after each sample.
unfoldable pub shown : List Around → Transmitter → List Bool
shown [] t = level t ∷ []
shown (a ∷ later) t = level t ∷ shown later (sent_around a t)

-- A frame of n data bits of w has just begun.
pub record Begun (n w : ℕ) (t : Transmitter) : Type 0 where
  pub left : t.left ≡ frame_samples n
  pub shift : t.shift ≡ frame_bits n w

-- Its levels are the start bit, the data bits low bit first, and the stop bit, 16 samples each, for any number of bits.
abbrev pub FramesShown : Type 0
FramesShown =
    (n w : ℕ) (t : Transmitter) (later : List Around) → Begun n w t → length later < frame_samples n →
    shown later t ≡ take (suc (length later)) (frame_levels (low_bits n w))

-- The data bits sent from a data register that holds w.
abbrev pub data_bits : ℕ → ℕ → ℕ
data_bits sccr1 w = data_sent (bits_of (M sccr1)) (PE sccr1) (PT sccr1) w

abbrev pub FramesBegin : Type 0
FramesBegin =
    (t : Transmitter) (s : Status) (sccr1 : ℕ) → begins_frame t s sccr1 ≡ true →
    Begun (bits_of (M sccr1)) (data_bits sccr1 t.scdr) (sent t s sccr1).transmitter

-- PE gives the word right parity, for any number of bits.
abbrev pub ParityRight : Type 0
ParityRight = (n w : ℕ) (pt : Bool) → parity_bit pt (data_sent n true pt w) ≡ false

-- The levels that reach a receiver.
unfoldable pub samples_of : List Op → List Bool
samples_of [] = []
samples_of (sample x ∷ os) = x ∷ samples_of os
samples_of (read scsr scdr ∷ os) = samples_of os

pub record NoError (s : Status) : Type 0 where
  pub or : has s OR ≡ false
  pub nf : has s NF ≡ false
  pub fe : has s FE ≡ false
  pub pf : has s PF ≡ false

-- Awake, searching after three ones, with no receive flag set.
pub record Ready (p : Received) : Type 0 where
  pub awake : p.receiver.asleep ≡ false
  pub searches : p.receiver.framer ≡ searching
  pub ones : three p.receiver ≡ true
  pub rdrf : has p.status RDRF ≡ false
  pub idle : has p.status IDLE ≡ false
  pub errors : NoError p.status

-- The word is in SCDR and waits there, RDRF set, with no error flag.
pub record InScdr (w : ℕ) (p : Received) : Type 0 where
  pub word : p.receiver.scdr ≡ w
  pub rdrf : has p.status RDRF ≡ true
  pub errors : NoError p.status

-- A frame that begins at a sample of the transmitter; the level after the transmitter's sample k is the receiver's sample k.
pub record Link (t : Transmitter) (s : Status) (sccr1 : ℕ) (p : Received) (sccr1' : ℕ) : Type 0 where
  -- Before its last sample nothing is taken.
  pub before : (later : List Around) (os : List Op) → length later < end_sample (bits_of (M sccr1)) →
      samples_of os ≡ shown later (sent t s sccr1).transmitter → has (acts sccr1' os p).status RDRF ≡ false
  -- At it the data bits sent are received.
  pub last : (later : List Around) (os : List Op) (x : Bool) → length later ≡ end_sample (bits_of (M sccr1)) →
      samples_of os ++ (x ∷ []) ≡ shown later (sent t s sccr1).transmitter →
      InScdr (data_bits sccr1 t.scdr % 2 ^ bits_of (M sccr1)) (act sccr1' (sample x) (acts sccr1' os p))
  -- IDLE doesn't rise.
  pub idle : (later : List Around) (os : List Op) (x : Bool) → length later ≡ end_sample (bits_of (M sccr1)) →
      samples_of os ++ (x ∷ []) ≡ shown later (sent t s sccr1).transmitter →
      has (act sccr1' (sample x) (acts sccr1' os p)).status IDLE ≡ false

abbrev pub Linked : Type 0
Linked =
    (t : Transmitter) (s : Status) (sccr1 : ℕ) (p : Received) (sccr1' : ℕ) → begins_frame t s sccr1 ≡ true →
    settings sccr1 ≡ settings sccr1' → Ready p → Link t s sccr1 p sccr1'
