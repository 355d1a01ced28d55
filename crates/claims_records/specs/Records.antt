-- Document 01, Trace (with 02, L5 and L9): each record's event from its own bytes, whatever follows it, and each answer's bytes, by number. Fields
-- are big-endian.
use Rattle.std.specs.Prelude.{◌≡◌, Bool, not, List, [], ◌∷◌, ℕ, ◌+◌, ◌*◌, ◌/◌, ◌%◌, ◌^◌, ◌<◌, eqb}
use Rattle.steps.specs.Bits.{digit}
use Rattle.qsm.specs.declared.event.Access.TheVariants.{Read, Write}
use Rattle.qsm.specs.declared.event.Event.{Event}
use Rattle.qsm.specs.declared.event.Event.TheVariants.{Reset, Hold}
use Rattle.qsm.specs.declared.event.Event.TheVariants as event
use Rattle.qsm.specs.declared.event.Answer.{Answer}
use Rattle.trace.specs.Trace.{parsed, answer_bytes}
use Rattle.trace.specs.declared.Parsed.TheVariants.{Record}

-- So many bytes are the record of an event.
abbrev pub Is : List ℕ → Event → ℕ → Type 0
Is bytes e n = parsed bytes ≡ Record e n

-- 01 reset.
abbrev pub Resets : Type 0
Resets = (t : List ℕ) → Is (0x01 ∷ t) Reset 1

-- 02 hold: pins, RXD (nonzero is one), clocks (2); there is one for each count to 65,535.
abbrev pub Holds : Type 0
Holds =
    (pins rxd n : ℕ) (t : List ℕ) → n < 65536 →
    Is (0x02 ∷ pins ∷ rxd ∷ n / 256 ∷ n % 256 ∷ t) (Hold pins (not (eqb rxd 0)) n) 5

-- 03 read: width with bit 7 for supervisor, offset (2).
abbrev pub Reads : Type 0
Reads =
    (supervisor : Bool) (width offset : ℕ) (t : List ℕ) → width < 128 → offset < 65536 →
    Is (0x03 ∷ (digit supervisor * 128 + width) ∷ offset / 256 ∷ offset % 256 ∷ t)
    (event.Access (Read supervisor width offset)) 4

-- 04 write: width likewise, offset (2), value (4).
abbrev pub Writes : Type 0
Writes =
    (supervisor : Bool) (width offset value : ℕ) (t : List ℕ) → width < 128 → offset < 65536 → value < 2 ^ 32 →
    Is
    (0x04 ∷
    (digit supervisor * 128 + width) ∷
    offset / 256 ∷
    offset % 256 ∷
    value / 16777216 ∷
    value / 65536 % 256 ∷
    value / 256 % 256 ∷
    value % 256 ∷
    t)
    (event.Access (Write supervisor width offset value)) 8

-- 05 long hold: pins, RXD likewise, clocks (4).
abbrev pub LongHolds : Type 0
LongHolds =
    (pins rxd n : ℕ) (t : List ℕ) → n < 2 ^ 32 →
    Is (0x05 ∷ pins ∷ rxd ∷ n / 16777216 ∷ n / 65536 % 256 ∷ n / 256 % 256 ∷ n % 256 ∷ t) (Hold pins (not (eqb rxd 0)) n) 7

-- An answer: 11, refusal or 0, value (4), driven levels, driven mask, level, vector, clocks (8).
abbrev pub Answers : Type 0
Answers =
    (a : Answer) →
    answer_bytes a
    ≡ 0x11 ∷
    a.refusal ∷
    a.value / 16777216 % 256 ∷
    a.value / 65536 % 256 ∷
    a.value / 256 % 256 ∷
    a.value % 256 ∷
    a.levels ∷
    a.mask ∷
    a.level ∷
    a.vector ∷
    a.clock / 2 ^ 56 % 256 ∷
    a.clock / 2 ^ 48 % 256 ∷
    a.clock / 2 ^ 40 % 256 ∷
    a.clock / 2 ^ 32 % 256 ∷
    a.clock / 2 ^ 24 % 256 ∷
    a.clock / 2 ^ 16 % 256 ∷
    a.clock / 2 ^ 8 % 256 ∷
    a.clock % 256 ∷
    []

pub record Claims : Type 0 where
  pub resets : Resets
  pub holds : Holds
  pub reads : Reads
  pub writes : Writes
  pub long_holds : LongHolds
  pub answers : Answers
