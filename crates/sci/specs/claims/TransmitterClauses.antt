-- Document 01, Transmitter: its clauses on TDRE, TC and parity, by what stood before a sample and what stands after it, in any state.
use Rattle.std.specs.Prelude.{Bool, true, false, not, ◌&&◌, ◌||◌, List, [], ◌∷◌, ◌≡◌, ℕ, suc, ◌+◌, ◌%◌, ◌<◌, eqb, leb, length, replicate}
use Rattle.steps.specs.Bits.{digit}
use Rattle.sci.specs.model.Flags.{TC, TDRE}
use Rattle.sci.specs.model.Status.{has}
use Rattle.sci.specs.model.Control.{M, TE, bits_of, frame_samples}
use Rattle.sci.specs.model.Transmitter.{runs, level, data_sent, sent}
use Rattle.sci.specs.claims.Levels.{low_bits}
use Rattle.sci.specs.claims.Link.{Around, sent_around, shown}
use Rattle.sci.specs.declared.status.Status.{Status}
use Rattle.sci.specs.declared.transmitter.Transmitter.{Transmitter}

-- From t to u, with the shifter free: a frame starts, as TXD shows its start bit; a preamble starts, with TXD at one.
abbrev pub frame_starts : Transmitter → Transmitter → Bool
frame_starts t u = leb t.left 1 && runs u && not (level u)

abbrev pub preamble_starts : Transmitter → Transmitter → Bool
preamble_starts t u = leb t.left 1 && runs u && level u

module _ (sccr1 : ℕ) (t : Transmitter) (s : Status) where
  abbrev u : Transmitter
  u = (sent t s sccr1).transmitter

  abbrev after : Status
  after = (sent t s sccr1).status

  pub record StartClauses : Type 0 where
    -- With the shifter free, TE set and TDRE clear, the frame starts, if no preamble is queued: that goes before.
    pub frame : frame_starts t u ≡ leb t.left 1 && TE sccr1 && not (has s TDRE) && not t.preamble
    pub preamble : preamble_starts t u ≡ leb t.left 1 && TE sccr1 && t.preamble
    pub queued : u.preamble ≡ t.preamble && not (preamble_starts t u)
    -- TDRE rises where a frame starts, and nowhere else.
    pub tdre : has after TDRE ≡ has s TDRE || frame_starts t u
    -- With nothing running TC keeps still.
    pub rests : runs t ≡ false → has after TC ≡ has s TC

-- So many samples, with what the firmware has left around the shifter before each.
unfoldable pub sent_all : List Around → Transmitter → Transmitter
sent_all [] t = t
sent_all (a ∷ later) t = sent_all later (sent_around a t)

-- What starts, by a sample from t to u, lasts 160 samples (M=0) or 176: TC rises with the last of them if TDRE is set then, and with no other.
pub record Lasts (n : ℕ) (u : Transmitter) (later : List Around) (a : Around) : Type 0 where
  pub runs : runs (sent_all later u) ≡ true
  pub tc : has (sent (sent_all later u) a.status a.sccr1).status TC
      ≡ has a.status TC || (eqb (suc (length later)) (frame_samples n) && has a.status TDRE)

abbrev pub EachLasts : Type 0
EachLasts =
    (sccr1 : ℕ) (t : Transmitter) (s : Status) (later : List Around) (a : Around) →
    let u : Transmitter = (sent t s sccr1).transmitter in
    frame_starts t u || preamble_starts t u ≡ true → length later < frame_samples (bits_of (M sccr1)) →
    Lasts (bits_of (M sccr1)) u later a

-- A preamble is ones.
abbrev pub PreambleOnes : Type 0
PreambleOnes =
    (sccr1 : ℕ) (t : Transmitter) (s : Status) (later : List Around) →
    let u : Transmitter = (sent t s sccr1).transmitter in
    preamble_starts t u ≡ true → length later < frame_samples (bits_of (M sccr1)) →
    shown later u ≡ replicate (suc (length later)) true

-- The number of ones among bits.
unfoldable pub ones_among : List Bool → ℕ
ones_among [] = 0
ones_among (b ∷ bits) = digit b + ones_among bits

-- The word as sent with PE, n bits and its parity bit: their ones together are even in number with PT=0, odd with PT=1; the n bits are the data's.
pub record ParitySent (n w : ℕ) (pt : Bool) : Type 0 where
  pub ones : ones_among (low_bits (suc n) (data_sent (suc n) true pt w)) % 2 ≡ digit pt
  pub data_bits_holds : low_bits n (data_sent (suc n) true pt w) ≡ low_bits n w

pub record TransmitterClauses : Type 0 where
  pub starts : (sccr1 : ℕ) (t : Transmitter) (s : Status) → StartClauses sccr1 t s
  pub lasts : EachLasts
  pub preamble : PreambleOnes
  pub parity : (n w : ℕ) (pt : Bool) → ParitySent n w pt
