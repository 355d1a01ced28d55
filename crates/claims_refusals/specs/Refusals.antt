-- Document 01, Seven refusals: the table's conditions on an access in its own words; and 10 (02, L9) of a record, with the event that a record
-- is. The other conditions on a record are among the laws of a trace.
use Rattle.std.specs.Prelude.{Bool, true, false, cond, not, ◌&&◌, ◌||◌, List, ℕ, zero, suc, ◌+◌, ◌-◌, ◌/◌, ◌%◌, ◌^◌, eqb, ltb, leb}
use Rattle.steps.specs.Bits.{bit, word, merge}
use Rattle.sci.specs.model.Transmitter.{runs}
use Rattle.sci.specs.declared.serial.Sci.{Sci}
use Rattle.qspi.specs.declared.Qspi.{Qspi}
use Rattle.qsm.specs.model.Map.{from, decode}
use Rattle.qsm.specs.model.Word.{put}
use Rattle.qsm.specs.model.Lanes.{upper_lane, lower_lane}
use Rattle.qsm.specs.declared.state.Module.{Module}
use Rattle.qsm.specs.declared.event.Access.TheVariants.{Read, Write}
use Rattle.qsm.specs.declared.event.Event.{Event}
use Rattle.qsm.specs.declared.event.Event.TheVariants.{Reset, Hold}
use Rattle.qsm.specs.declared.event.Event.TheVariants as event
use Rattle.trace.specs.Trace.{byte_at, word_at, long_at}

-- Some byte touched, of so many from an offset on, is one of these.
abbrev pub touches : (ℕ → Bool) → ℕ → ℕ → Bool
touches f offset zero = false
touches f offset (suc n) = f offset || touches f (offset + 1) n

-- 1: width not 1, 2 or 4; odd offset with 2 or 4.
abbrev pub misshapen : ℕ → ℕ → Bool
misshapen width offset =
    not (eqb width 1 || eqb width 2 || eqb width 4) || ((eqb width 2 || eqb width 4) && eqb (offset % 2) 1)

-- 1, of a write: also a written value too big for the width.
abbrev pub malformed : ℕ → ℕ → ℕ → Bool
malformed width offset value = misshapen width offset || leb (256 ^ width) value

-- 02, 03, 06, 07, 10-13, 20-FF and all above 14F are not in the map.
abbrev pub hole : ℕ → Bool
hole b = from 0x02 0x03 b || from 0x06 0x07 b || from 0x10 0x13 b || from 0x20 0xFF b || leb 0x150 b

-- 2: any byte touched is not in the map.
abbrev pub unmapped : ℕ → ℕ → Bool
unmapped width offset = touches hole offset width

-- The bytes of QSMCR, QILR, QIVR.
abbrev pub restricted : ℕ → Bool
restricted b = from 0x00 0x01 b || from 0x04 0x05 b

-- Privilege: user access to these, or to anything else while SUPV (bit 7 of QSMCR) is set.
abbrev pub unprivileged : Module → Bool → ℕ → ℕ → Bool
unprivileged m supervisor width offset =
    not supervisor && (bit 7 m.qsmcr || touches restricted offset width)

-- The register at a place is the word at an offset.
abbrev pub at : ℕ → ℕ → Bool
at place offset = eqb (offset / 2) (place / 2)

-- A word written, of which the upper byte, the lower or both are touched, would set STOP 15 or FRZ 14:13; LOOPS 14, WOMS 13 or
-- SBK 0; WOMQ 14 or BITS (13:10) 1 to 7; SPE 15 with MSTR (15 of SPCR0) clear; LOOPQ (2 of the upper byte).
abbrev pub sets_unmodelled : Module → ℕ → ℕ → Bool → Bool → Bool
sets_unmodelled m offset v upper lower =
    cond (at 0x00 offset) (upper && not (eqb (v / 2 ^ 13 % 2 ^ 3) 0))
    (cond (at 0x0A offset) ((upper && (bit 14 v || bit 13 v)) || (lower && bit 0 v))
    (cond (at 0x18 offset) (upper && (bit 14 v || from 1 7 (v / 2 ^ 10 % 2 ^ 4)))
    (cond (at 0x1A offset) ((upper && bit 15 v) && not (bit 15 m.qspi.registers.spcr0))
    (cond (at 0x1E offset) (upper && bit 10 v) false))))

-- A field differs between a word and what a write of its bytes makes of it.
abbrev pub changes : (ℕ → ℕ) → ℕ → ℕ → Bool → Bool → Bool
changes field old v upper lower = not (eqb (field (merge old v upper lower)) (field old))

-- TE (bit 3) or RE (bit 2) is set or a frame or preamble runs; SPE (bit 15 of SPCR1) is set.
abbrev pub serial_on : Sci → Bool
serial_on s = bit 3 s.sccr1 || bit 2 s.sccr1 || runs s.transmitter

abbrev pub queue_on : Qspi → Bool
queue_on q = bit 15 q.registers.spcr1

-- A word written changes SCCR0 (SCBR, 12:0), or ILT, PT, PE, M, WAKE (12:8), while the serial half is on; SPCR0, or DSCKL and DTL
-- (14:0), while the queue half is on.
abbrev pub changes_guarded : Module → ℕ → ℕ → Bool → Bool → Bool
changes_guarded m offset v upper lower =
    cond (at 0x08 offset) (serial_on m.sci && changes (λ w. w % 2 ^ 13) m.sci.sccr0 v upper lower)
    (cond (at 0x0A offset) (serial_on m.sci && changes (λ w. w / 2 ^ 8 % 2 ^ 5) m.sci.sccr1 v upper lower)
    (cond (at 0x18 offset) (queue_on m.qspi && changes (λ w. w) m.qspi.registers.spcr0 v upper lower)
    (cond (at 0x1A offset) (queue_on m.qspi && changes (λ w. w % 2 ^ 15) m.qspi.registers.spcr1 v upper lower) false)))

-- The word that a byte or a word writes: a byte stands in both bytes, and one of them is touched.
abbrev pub word_written : ℕ → ℕ → ℕ
word_written width value = cond (eqb width 1) (word (value % 256) (value % 256)) (value % 65536)

-- A condition on a write: of its one word, or of either half of a long, the second against what the first would leave.
abbrev pub either : (Module → ℕ → ℕ → Bool → Bool → Bool) → Module → ℕ → ℕ → ℕ → Bool
either f m width offset value =
    cond (eqb width 4)
    (f m offset (value / 65536) true true
    || f (put m (decode offset) (value / 65536) true true) (offset + 2) (value % 65536) true true)
    (f m offset (word_written width value) (upper_lane width offset) (lower_lane width offset))

-- 3: a write would set an unmodelled bit, BITS 1 to 7, or SPE with MSTR clear.
abbrev pub unmodelled : Module → ℕ → ℕ → ℕ → Bool
unmodelled = either sets_unmodelled

-- 4: a write changes a guarded field while its half is on.
abbrev pub guarded : Module → ℕ → ℕ → ℕ → Bool
guarded = either changes_guarded

-- 10, of the record at the start of a trace: 02, a hold of 2 bytes' clocks, or 05, one of 4, would pass 2^64 - 1.
abbrev pub past_limit : Module → List ℕ → Bool
past_limit m t =
    cond (eqb (byte_at t 0) 2) (ltb (2 ^ 64 - 1) (m.clock + word_at t 3))
    (cond (eqb (byte_at t 0) 5) (ltb (2 ^ 64 - 1) (m.clock + long_at t 3)) false)

-- The event of the record at the start of a trace, of a known kind and whole: 01 reset; 02 hold: pins, RXD (nonzero is one), clocks (2);
-- 03 read: width with bit 7 for supervisor, offset (2); 04 write: width likewise, offset (2), value (4); 05 hold with clocks (4).
abbrev pub event_at : List ℕ → Event
event_at t =
    cond (eqb (byte_at t 0) 1) Reset
    (cond (eqb (byte_at t 0) 2) (Hold (byte_at t 1) (not (eqb (byte_at t 2) 0)) (word_at t 3))
    (cond (eqb (byte_at t 0) 3) (event.Access (Read (leb 128 (byte_at t 1)) (byte_at t 1 % 128) (word_at t 2)))
    (cond (eqb (byte_at t 0) 4) (event.Access (Write (leb 128 (byte_at t 1)) (byte_at t 1 % 128) (word_at t 2) (long_at t 4)))
    (Hold (byte_at t 1) (not (eqb (byte_at t 2) 0)) (long_at t 3)))))
