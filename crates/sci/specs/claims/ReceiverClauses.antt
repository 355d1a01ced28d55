-- Document 01, Receiver: its clauses on RAF, the idle count, sleep, taken frames and parity, of one sample. Each is told by what stood before
-- the sample and what stands after it, in any state.
use Rattle.std.specs.Prelude.{Bool, true, false, cond, not, ◌&&◌, ◌||◌, List, [], ◌∷◌, ◌≡◌, ℕ, suc, ◌+◌, ◌-◌, ◌*◌, ◌/◌, ◌%◌, ◌^◌, ◌≤◌, ◌<◌, min, eqb, leb, ltb, get_or}
use Rattle.std.specs.Int.Count.{ones}
use Rattle.steps.specs.Bits.{digit}
use Rattle.sci.specs.model.Flags.{PF, FE, OR, IDLE, RAF, RDRF, receive_flags}
use Rattle.sci.specs.claims.Members.{member}
use Rattle.sci.specs.model.Status.{has}
use Rattle.sci.specs.model.Control.{ILT, PT, PE, M, WAKE, bits_of, frame_samples}
use Rattle.sci.specs.model.Receiver.{start_state, received}
use Rattle.sci.specs.claims.Levels.{low_bits}
use Rattle.sci.specs.claims.Line.{Op, acts}
use Rattle.sci.specs.claims.Link.{samples_of}
use Rattle.sci.specs.declared.status.Status.{Status}
use Rattle.sci.specs.declared.receiver.Receiver.{Receiver}

-- From r to q: a start bit begins, at RT1; it is abandoned; a frame ends.
abbrev pub start_begins : Receiver → Receiver → Bool
start_begins r q = not r.framer.framing && q.framer.framing

abbrev pub start_abandoned : Receiver → Receiver → Bool
start_abandoned r q = r.framer.framing && r.framer.starting && not q.framer.framing

abbrev pub frame_ends : Receiver → Receiver → Bool
frame_ends r q = r.framer.framing && not r.framer.starting && not q.framer.framing

-- The idle count gets to its limit.
abbrev pub idle_reached : ℕ → Receiver → Receiver → Bool
idle_reached n r q = ltb r.idle (frame_samples n) && eqb q.idle (frame_samples n)

-- A flag rises: it was clear and is set.
abbrev pub rises : Bool → Bool → Bool
rises before after = not before && after

-- The last of the n data bits, as they came.
abbrev pub last_bit : ℕ → ℕ → Bool
last_bit n w = get_or (low_bits n w) (n - 1) true

-- An ended frame, not asleep, is taken; so is one that wakes the receiver.
abbrev pub frame_taken : ℕ → Receiver → Receiver → Bool
frame_taken sccr1 r q =
    frame_ends r q && (not r.asleep || (WAKE sccr1 && last_bit (bits_of (M sccr1)) r.framer.shift))

-- A bit as it is read at its RT10: one with two ones or more at RT8, RT9 and RT10.
abbrev pub read_one : Receiver → Bool → Bool
read_one r x = leb 2 (digit r.framer.first + digit r.framer.second + digit x)

-- One sample x, of a receiver whose RT is none past 16.
module _ (sccr1 : ℕ) (r : Receiver) (s : Status) (x : Bool) where
  abbrev q : Receiver
  q = (received r s sccr1 x).receiver

  abbrev t : Status
  t = (received r s sccr1 x).status

  abbrev n : ℕ
  n = bits_of (M sccr1)

  pub record SampleClauses : Type 0 where
    -- RT1 of a start bit: a zero after three ones, while searching.
    pub starts : start_begins r q ≡ not r.framer.framing && r.last1 && r.last2 && r.last3 && not x
    -- RT1 sets RAF; it falls with an abandoned start and at the idle count's limit.
    pub raf : has t RAF ≡ (has s RAF || start_begins r q) && not (start_abandoned r q || idle_reached n r q)
    -- The idle count: reset by a zero, and with ILT=1 when a frame ends.
    pub zero : x ≡ false → q.idle ≡ 0
    pub ended : ILT sccr1 ≡ true → frame_ends r q ≡ true → q.idle ≡ 0
    pub one : x ≡ true → ILT sccr1 && frame_ends r q ≡ false → q.idle ≡ min (frame_samples n) (suc r.idle)
    -- IDLE rises at its limit, if awake before it and a frame has entered SCDR since the last such moment.
    pub idle : has t IDLE ≡ has s IDLE || (idle_reached n r q && not r.asleep && r.since)
    pub since : q.since ≡ not (idle_reached n r q) && (r.since || rises (has s RDRF) (has t RDRF))
    -- Taken with RDRF and OR clear it enters SCDR and RDRF rises; else it is lost: OR rises, and SCDR stays.
    pub rdrf : has t RDRF ≡ has s RDRF || (frame_taken sccr1 r q && not (has s OR))
    pub or : has t OR ≡ has s OR || (frame_taken sccr1 r q && has s RDRF)
    pub scdr : q.scdr ≡ cond (rises (has s RDRF) (has t RDRF)) r.framer.shift r.scdr
    -- PF: PE and wrong parity of the word that enters. The number of its ones is to be even with PT=0 and odd with PT=1.
    pub pf : has t PF
        ≡ has s PF || (rises (has s RDRF) (has t RDRF) && PE sccr1 && not (eqb (ones q.scdr % 2) (digit (PT sccr1))))
    -- FE: the stop bit of the word that enters is read as zero.
    pub fe : has t FE ≡ has s FE || (rises (has s RDRF) (has t RDRF) && not (read_one r x))
    -- A data bit is read at its RT10, and comes in above those before it.
    pub reads : r.framer.framing ≡ true → r.framer.starting ≡ false → 0 < r.framer.left → r.framer.rt ≡ 9 →
        q.framer.shift ≡ r.framer.shift / 2 + digit (read_one r x) * 2 ^ (n - 1)
    -- Asleep with WAKE=0 it wakes at the idle count's limit, with WAKE=1 by a frame whose last bit before stop is 1, and by nothing else.
    pub wakes_idle : r.asleep ≡ true → WAKE sccr1 ≡ false → q.asleep ≡ not (idle_reached n r q)
    pub wakes_frame : r.asleep ≡ true → WAKE sccr1 ≡ true → q.asleep ≡ not (frame_ends r q && last_bit n r.framer.shift)
    pub awake : r.asleep ≡ false → q.asleep ≡ false
    -- Asleep, no receive flag rises, nor where an idle line wakes it.
    pub silent : r.asleep ≡ true → q.asleep || not (WAKE sccr1) ≡ true → (k : ℕ) → member k receive_flags ≡ true →
        member k t.flags ≡ member k s.flags
    -- RT stays within its bit.
    pub within : q.framer.rt ≤ 16

abbrev pub SamplesHeard : Type 0
SamplesHeard = (sccr1 : ℕ) (r : Receiver) (s : Status) (x : Bool) → r.framer.rt ≤ 16 → SampleClauses sccr1 r s x

-- Consecutive ones, of samples in the order in which they came: those at the end.
unfoldable pub ones_at_end : List Bool → ℕ → ℕ
ones_at_end [] k = k
ones_at_end (true ∷ xs) k = ones_at_end xs (suc k)
ones_at_end (false ∷ xs) k = ones_at_end xs 0

-- ILT=0: frames don't matter. From a start state on the idle count is the number of ones since the last zero, as far as its limit.
abbrev pub OnesCounted : Type 0
OnesCounted =
    (sccr1 : ℕ) (r : Receiver) (s : Status) (os : List Op) → ILT sccr1 ≡ false →
    (acts sccr1 os (record { receiver = start_state r; status = s })).receiver.idle
    ≡ min (frame_samples (bits_of (M sccr1))) (ones_at_end (samples_of os) 0)

pub record ReceiverClauses : Type 0 where
  -- RE clear leaves RT within its bit, and each sample keeps it there (`within`).
  pub start : (r : Receiver) → (start_state r).framer.rt ≤ 16
  pub samples : SamplesHeard
  pub idle_count : OnesCounted
