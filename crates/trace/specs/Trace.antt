-- Document 01, Trace, with kind 05 (02, L5) and answers of kind 11 (02, L9): a kind byte, then a body of fixed length; each record gives 18
-- bytes. Fields are big-endian.
use Rattle.std.specs.Prelude.{Bool, true, not, cond, List, ℕ, ◌+◌, ◌*◌, ◌%◌, eqb, ltb, leb, length, get_or}
use Rattle.steps.specs.Bits.{word}
use Rattle.answers.specs.Answer.{clocked, clocked_length, body_of, bytes_of}
use Rattle.qsm.specs.declared.event.Access.TheVariants.{Read, Write}
use Rattle.qsm.specs.declared.event.Event.{Event}
use Rattle.qsm.specs.declared.event.Event.TheVariants.{Reset, Hold}
use Rattle.qsm.specs.declared.event.Event.TheVariants as event
use Rattle.qsm.specs.declared.event.Answer.{Answer}
use Rattle.trace.specs.declared.Parsed.{Parsed}
use Rattle.trace.specs.declared.Parsed.TheVariants.{Record, Unknown, Cut}

-- The byte, the word and the long that start at place i.
abbrev pub byte_at : List ℕ → ℕ → ℕ
byte_at t i = get_or t i 0

abbrev pub word_at : List ℕ → ℕ → ℕ
word_at t i = word (byte_at t i) (byte_at t (i + 1))

abbrev pub long : ℕ → ℕ → ℕ
long h l = h * 65536 + l

abbrev pub long_at : List ℕ → ℕ → ℕ
long_at t i = long (word_at t i) (word_at t (i + 2))

-- The event of n bytes at the start of t, or a record cut by the end of the trace.
abbrev pub whole : List ℕ → ℕ → Event → Parsed
whole t n e = cond (ltb (length t) n) Cut (Record e n)

-- 02 hold: pins, RXD (nonzero is one), clocks (2).
abbrev pub hold_record : List ℕ → Parsed
hold_record t = whole t 5 (Hold (byte_at t 1) (not (eqb (byte_at t 2) 0)) (word_at t 3))

-- 05 long hold: pins, RXD likewise, clocks (4).
abbrev pub long_hold_record : List ℕ → Parsed
long_hold_record t = whole t 7 (Hold (byte_at t 1) (not (eqb (byte_at t 2) 0)) (long_at t 3))

-- A width with bit 7 for supervisor.
abbrev pub supervisor_of : ℕ → Bool
supervisor_of b = leb 128 b

abbrev pub width_of : ℕ → ℕ
width_of b = b % 128

-- 03 read: width with bit 7 for supervisor, offset (2).
abbrev pub read_record : List ℕ → Parsed
read_record t =
    whole t 4 (event.Access (Read (supervisor_of (byte_at t 1)) (width_of (byte_at t 1)) (word_at t 2)))

-- 04 write: width likewise, offset (2), value (4).
abbrev pub write_record : List ℕ → Parsed
write_record t =
    whole t 8
    (event.Access (Write (supervisor_of (byte_at t 1)) (width_of (byte_at t 1)) (word_at t 2) (long_at t 4)))

-- The kinds: 01 reset, 02 hold, 03 read, 04 write, 05 long hold.
abbrev pub reset_kind : ℕ
reset_kind = 0x01

abbrev pub hold_kind : ℕ
hold_kind = 0x02

abbrev pub read_kind : ℕ
read_kind = 0x03

abbrev pub write_kind : ℕ
write_kind = 0x04

abbrev pub long_hold_kind : ℕ
long_hold_kind = 0x05

-- A record by its kind; one of an unknown kind, with or without a body, is none.
abbrev pub by_kind : ℕ → List ℕ → Parsed
by_kind kind t =
    cond (eqb kind reset_kind) (Record Reset 1)
    (cond (eqb kind hold_kind) (hold_record t)
    (cond (eqb kind read_kind) (read_record t)
    (cond (eqb kind write_kind) (write_record t)
    (cond (eqb kind long_hold_kind) (long_hold_record t)
    Unknown))))

-- The kinds that a reader takes: every kind there is, or those of document 01, as the reader before L5.
abbrev pub every_kind : ℕ → Bool
every_kind kind = true

abbrev pub earlier : ℕ → Bool
earlier kind = not (eqb kind long_hold_kind)

-- The record at the start of t, to a reader of such kinds: its event and its length.
abbrev pub parsed_by : (ℕ → Bool) → List ℕ → Parsed
parsed_by takes t = cond (eqb (length t) 0) Cut (cond (takes (byte_at t 0)) (by_kind (byte_at t 0) t) Unknown)

abbrev pub parsed : List ℕ → Parsed
parsed t = parsed_by every_kind t

-- An answer is of kind 11: its body, which stands behind kind 10 too, and the clocks since reset.
abbrev pub answer_kind : ℕ
answer_kind = clocked

abbrev pub answer_length : ℕ
answer_length = clocked_length

abbrev pub answer_body : Answer → List ℕ
answer_body a = body_of a.refusal a.value a.levels a.mask a.level a.vector

abbrev pub answer_bytes : Answer → List ℕ
answer_bytes a = bytes_of a.refusal a.value a.levels a.mask a.level a.vector a.clock

-- A reader of traces: the kinds that it takes, and the length and bytes of its answers.
pub record Reader : Type 0 where
  pub takes : ℕ → Bool
  pub size : ℕ
  pub bytes : Answer → List ℕ

-- That of documents 01 and 02.
abbrev pub reader : Reader
reader = record { takes = every_kind; size = answer_length; bytes = answer_bytes }
