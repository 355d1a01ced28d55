-- Clauses of the rules on the queue, said over its writes, reads and clocks and not as the definitions say them.
use Rattle.std.specs.Prelude.{◌≡◌, Bool, true, false, not, ◌&&◌, ◌||◌, ℕ, ◌+◌, ◌-◌, ◌/◌, ◌%◌, ◌≤◌, ◌<◌, leb, get_or, set}
use Rattle.steps.specs.Bits.{bit}
use Rattle.qspi.specs.model.Fields.{cpol, cpha, newqp, halt}
use Rattle.qspi.specs.model.Registers.{spcr2_word, write_spcr1, write_spcr2}
use Rattle.qspi.specs.model.Queue.{entry_at, begun, clock}
use Rattle.qspi.specs.model.Outputs.{enabled, sck, mosi, pcs, asks}
use Rattle.qspi.specs.claims.Run.{run, bits_in, pre_in, spbr_in, edge_clock, last_clock, length_in, reading_edge, word_of}
use Rattle.qspi.specs.claims.Laws.{Starting, Calm, Halted, goes_on}
use Rattle.qspi.specs.declared.Qspi.{Qspi}
use Rattle.qspi.specs.declared.Pins.{Pins}

-- None of the first c clocks is a clock 1.
abbrev pub NoClock1 : Qspi → (ℕ → Pins) → ℕ → Type 0
NoClock1 q pins c = (k : ℕ) → k < c → Starting (run pins k q) → ⊥

-- A write touching NEWQP, even with its own value, moves the pointer at the next clock 1, whatever ends or wraps before it.
abbrev pub NewqpMoves : Type 0
NewqpMoves =
    (q : Qspi) (v : ℕ) (upper : Bool) (pins : ℕ → Pins) (c : ℕ) → NoClock1 (write_spcr2 q v upper true) pins c →
    entry_at (run pins c (write_spcr2 q v upper true)) ≡ v % 16

-- So where a queue goes on, a write within an entry beats the wrap, with WRTO or not, and pointer + 1: the next entry begins when it would
-- have, at NEWQP.
abbrev pub PendingWins : Type 0
PendingWins =
    (q : Qspi) (pins : ℕ → Pins) → Starting q → Calm pins → goes_on q ≡ true → halt q.registers.spcr3 ≡ false →
    (d v : ℕ) (upper : Bool) → 0 < d → d < length_in (begun q) →
    Starting (run (λ k. pins (d + k)) (length_in (begun q) - d) (write_spcr2 (run pins d q) v upper true))
    × (entry_at (run (λ k. pins (d + k)) (length_in (begun q) - d) (write_spcr2 (run pins d q) v upper true)) ≡ v % 16)

-- A write of SPCR2's upper byte alone does not.
abbrev pub UpperAlone : Type 0
UpperAlone = (q : Qspi) (v : ℕ) → entry_at (write_spcr2 q v true false) ≡ entry_at q

-- Clock 1 takes the working copy, and the command and the transmit word where the pointer then stands.
pub record Taken (q r : Qspi) : Type 0 where
  pub working : r.next.working ≡ spcr2_word q
  pub pointer : r.next.pointer ≡ entry_at q
  pub command : r.entry.command ≡ get_or q.ram.commands (entry_at q) 0
  pub word : r.entry.word ≡ get_or q.ram.transmit (entry_at q) 0

abbrev pub Clock1Takes : Type 0
Clock1Takes = (q : Qspi) (pins : ℕ → Pins) → Starting q → Calm pins → Taken q (run pins 1 q)

-- The same but for SPCR2 as it is read, and a pending NEWQP.
pub record Alike (q r : Qspi) : Type 0 where
  pub spcr0 : r.registers.spcr0 ≡ q.registers.spcr0
  pub spcr1 : r.registers.spcr1 ≡ q.registers.spcr1
  pub spcr3 : r.registers.spcr3 ≡ q.registers.spcr3
  pub spsr : r.spsr ≡ q.spsr
  pub ram : r.ram ≡ q.ram
  pub working : r.next.working ≡ q.next.working
  pub pointer : r.next.pointer ≡ q.next.pointer
  pub entry : r.entry ≡ q.entry

-- SPCR2 is buffered: up to the next clock 1 the working copy rules, so a write of it (ENDQP, WREN, WRTO, SPIFIE) changes neither how an
-- entry or the queue ends nor the request.
abbrev pub Buffered : Type 0
Buffered =
    (q : Qspi) (v : ℕ) (upper lower : Bool) (pins : ℕ → Pins) (c : ℕ) → NoClock1 q pins c →
    Alike (run pins c q) (run pins c (write_spcr2 q v upper lower))
    × (asks (run pins c (write_spcr2 q v upper lower)) ≡ asks (run pins c q))

-- SPE rising: the pointer comes from NEWQP and the working copy from SPCR2, SCK rests, MOSI is 0, the PCS show PORTQS; the next clock is
-- clock 1, unless SPBR is 0 or 1. SPSR and the RAM stay.
pub record Rises (q r : Qspi) : Type 0 where
  pub on : enabled r ≡ true
  pub pointer : entry_at r ≡ newqp (spcr2_word q)
  pub working : r.next.working ≡ spcr2_word q
  pub next : leb 2 (spbr_in q) ≡ true → Starting r
  pub rests : sck r ≡ cpol q.registers.spcr0
  pub silent : mosi r ≡ false
  pub select : (portqs : ℕ) → pcs r portqs ≡ portqs / 8 % 16
  pub spsr : r.spsr ≡ q.spsr
  pub ram : r.ram ≡ q.ram

abbrev pub SpeRises : Type 0
SpeRises =
    (q : Qspi) (v : ℕ) (lower : Bool) → enabled q ≡ false → bit 15 v ≡ true → Rises q (write_spcr1 q v true lower)

-- A one written while SPE is set is no rise.
abbrev pub NoRise : Type 0
NoRise =
    (q : Qspi) (v : ℕ) (lower : Bool) → enabled q ≡ true → bit 15 v ≡ true →
    ((write_spcr1 q v true lower).next ≡ q.next) × ((write_spcr1 q v true lower).entry ≡ q.entry)

-- MOSI is 0 from SPE's rise to the first bit, which comes with edge 1 for CPHA=1.
abbrev pub SilentBefore : Type 0
SilentBefore =
    (q : Qspi) (v : ℕ) (lower : Bool) (pins : ℕ → Pins) → enabled q ≡ false → bit 15 v ≡ true →
    leb 2 (spbr_in q) ≡ true → cpha q.registers.spcr0 ≡ true → Calm pins → (c : ℕ) →
    c < pre_in (begun (write_spcr1 q v true lower)) → mosi (run pins c (write_spcr1 q v true lower)) ≡ false

-- In a clock MODF rises with PQS3 assigned, input and low, MSTR and SPE, and not else.
abbrev pub ModfOnly : Type 0
ModfOnly =
    (q : Qspi) (pins : Pins) →
    (clock q pins).spsr.flags.modf
    ≡ ((enabled q && bit 15 q.registers.spcr0)
    && ((bit 3 pins.pqspar && not (bit 3 pins.ddrqs)) && not (bit 3 pins.levels)))
    || q.spsr.flags.modf

-- HALTA rises in the last clock of an entry's delay with HALT set, and in no other.
pub record LastOfDelay (q : Qspi) : Type 0 where
  pub on : enabled q ≡ true
  pub delaying : q.entry.delaying ≡ true
  pub last : q.entry.left ≤ 1
  pub halts : halt q.registers.spcr3 ≡ true

abbrev pub HaltaOnly : Type 0
HaltaOnly =
    (q : Qspi) (pins : Pins) → q.spsr.flags.halta ≡ false → (clock q pins).spsr.flags.halta ≡ true → LastOfDelay q

-- Once for a halt: cleared while the queue waits for HALT to clear, it does not rise again.
abbrev pub HaltaOnce : Type 0
HaltaOnce =
    (q : Qspi) (pins : ℕ → Pins) → Halted q → Calm pins → halt q.registers.spcr3 ≡ true →
    q.spsr.flags.halta ≡ false → (d : ℕ) → (run pins d q).spsr.flags.halta ≡ false

-- MISO assigned and an input.
abbrev pub miso_reads : Pins → Bool
miso_reads pins = bit 0 pins.pqspar && not (bit 0 pins.ddrqs)

-- The levels of MISO at the reading edges of an entry.
abbrev pub levels_read : Qspi → (ℕ → Pins) → ℕ → Bool
levels_read e pins i = bit 0 (pins (edge_clock e (reading_edge (cpha e.registers.spcr0) i))).levels

-- Assigned and an input, its levels are read; otherwise zeros are.
abbrev pub MisoRead : Type 0
MisoRead =
    (q : Qspi) (pins : ℕ → Pins) → Starting q → Calm pins → ((c : ℕ) → miso_reads (pins c) ≡ true) →
    (run pins (last_clock (begun q)) q).ram.receive
    ≡ set q.ram.receive (entry_at q) (word_of (levels_read (begun q) pins) (bits_in (begun q)))

abbrev pub MisoZeros : Type 0
MisoZeros =
    (q : Qspi) (pins : ℕ → Pins) → Starting q → Calm pins → ((c : ℕ) → miso_reads (pins c) ≡ false) →
    (run pins (last_clock (begun q)) q).ram.receive ≡ set q.ram.receive (entry_at q) 0

-- All of them.
pub record Clauses : Type 0 where
  pub newqp_moves : NewqpMoves
  pub pending_wins : PendingWins
  pub upper_alone : UpperAlone
  pub clock1_takes : Clock1Takes
  pub buffered : Buffered
  pub spe_rises : SpeRises
  pub no_rise : NoRise
  pub silent_before : SilentBefore
  pub modf_only : ModfOnly
  pub halta_only : HaltaOnly
  pub halta_once : HaltaOnce
  pub miso_read : MisoRead
  pub miso_zeros : MisoZeros
