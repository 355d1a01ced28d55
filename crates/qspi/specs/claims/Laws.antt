-- Laws of an entry and of a queue, for all settings, with no reset, write, HALT or mode fault in between.
use Rattle.std.specs.Prelude.{◌≡◌, Bool, true, false, cond, not, ◌||◌, ℕ, ◌+◌, ◌-◌, ◌*◌, ◌/◌, ◌%◌, ◌^◌, ◌≤◌, ◌<◌, eqb, leb, set}
use Rattle.steps.specs.Bits.{bit}
use Rattle.steps.specs.Iterate.{iterate}
use Rattle.qspi.specs.model.Fields.{cpol, cpha, spe, wren, endqp, halt, cont, pcs_field}
use Rattle.qspi.specs.model.Registers.{write_spcr1, write_spcr3_spsr}
use Rattle.qspi.specs.model.Queue.{entry_at, begun, completed, ready, selected, wrap_to, fault_now, clock}
use Rattle.qspi.specs.model.Outputs.{sck, pcs}
use Rattle.qspi.specs.claims.Run.{run, bits_in, pre_in, spbr_in, delay_in, edge_clock, gap, last_clock, length_in, during, waiting, waited, stopped, bit_shown, word_of, bits_read, entry_no, begins_at, entries_before, ends_at}
use Rattle.qspi.specs.declared.Qspi.{Qspi}
use Rattle.qspi.specs.declared.Pins.{Pins}

-- The next clock is clock 1 of an entry: SPE is set, SPBR is 2 or more, and the queue isn't halted.
pub record Starting (q : Qspi) : Type 0 where
  pub on : spe q.registers.spcr1 ≡ true
  pub not_playing : q.entry.playing ≡ false
  pub not_delaying : q.entry.delaying ≡ false
  pub goes : ready q ≡ true

-- No mode fault.
abbrev pub Calm : (ℕ → Pins) → Type 0
Calm pins = (c : ℕ) → selected (pins c) ≡ false

-- Clocks under one set of pins, as in a hold, are a run.
abbrev pub HoldRuns : Type 0
HoldRuns = (pins : Pins) (n : ℕ) (q : Qspi) → iterate n (λ r. clock r pins) q ≡ run (λ c. pins) n q

-- A queue that is back in a state p clocks after it was in it stays in that round: of any clocks only the rest after whole periods counts.
abbrev pub PeriodOut : Type 0
PeriodOut =
    (pins : Pins) (n p : ℕ) (q : Qspi) → 0 < p → iterate p (λ r. clock r pins) q ≡ q →
    iterate n (λ r. clock r pins) q ≡ iterate (n % p) (λ r. clock r pins) q

-- The clock of edge j as a formula.
abbrev pub EdgeFormula : Type 0
EdgeFormula = (e : Qspi) (j : ℕ) → 0 < j → edge_clock e j ≡ pre_in e + (j - 1) * spbr_in e

-- The queue goes on after the entry that clock 1 takes: it isn't the one at ENDQP, or WREN is set.
abbrev pub goes_on : Qspi → Bool
goes_on q = not (eqb (entry_at q) (endqp q.registers.spcr2)) || wren q.registers.spcr2

-- SPIF has risen and SPE fallen, and the entry at ENDQP was the last.
pub record QueueOver (q r : Qspi) : Type 0 where
  pub off : spe r.registers.spcr1 ≡ false
  pub risen : r.spsr.flags.spif ≡ true
  pub last : r.spsr.cptqp ≡ endqp q.registers.spcr2

-- Edge j falls at clock p + (j - 1) x SPBR: from that clock on, up to the next edge, j edges have fallen.
abbrev pub EdgesFall : Type 0
EdgesFall =
    (q : Qspi) (pins : ℕ → Pins) → Starting q → Calm pins → (j d : ℕ) → j < bits_in (begun q) * 2 →
    d < gap (begun q) j → 0 < edge_clock (begun q) j + d →
    run pins (edge_clock (begun q) j + d) q ≡ during (begun q) pins j (gap (begun q) j - d)

-- Edge 2n falls at clock p + (2n - 1) x SPBR, and completes the entry.
abbrev pub LastEdge : Type 0
LastEdge =
    (q : Qspi) (pins : ℕ → Pins) → Starting q → Calm pins →
    run pins (last_clock (begun q)) q
    ≡ completed (during (begun q) pins (bits_in (begun q) * 2) (spbr_in (begun q)))

-- SCK turns with each edge and rests at CPOL after edge 2n.
abbrev pub SckTurns : Type 0
SckTurns =
    (q : Qspi) (pins : ℕ → Pins) → Starting q → Calm pins → (j d : ℕ) → j < bits_in (begun q) * 2 →
    d < gap (begun q) j → 0 < edge_clock (begun q) j + d →
    sck (run pins (edge_clock (begun q) j + d) q)
    ≡ cond (eqb (j % 2) 1) (not (cpol q.registers.spcr0)) (cpol q.registers.spcr0)

abbrev pub SckRests : Type 0
SckRests =
    (q : Qspi) (pins : ℕ → Pins) → Starting q → Calm pins →
    sck (run pins (last_clock (begun q)) q) ≡ cpol q.registers.spcr0

-- The PCS show the command's value from clock 1 on, in the delay only with CONT.
abbrev pub PcsShow : Type 0
PcsShow =
    (q : Qspi) (pins : ℕ → Pins) → Starting q → Calm pins → (j d portqs : ℕ) → j < bits_in (begun q) * 2 →
    d < gap (begun q) j → 0 < edge_clock (begun q) j + d →
    pcs (run pins (edge_clock (begun q) j + d) q) portqs ≡ pcs_field (begun q).entry.command

abbrev pub PcsDelay : Type 0
PcsDelay =
    (q : Qspi) (pins : ℕ → Pins) → Starting q → Calm pins → goes_on q ≡ true → (d portqs : ℕ) →
    d < delay_in (begun q) →
    pcs (run pins (last_clock (begun q) + d) q) portqs
    ≡ cond (eqb d 0 || cont (begun q).entry.command) (pcs_field (begun q).entry.command) (portqs / 8 % 16)

-- MOSI shows the low n bits of the transmit word, highest first: with CPHA=0 bit i from edge 2i on, clock 1 for the first,
-- with CPHA=1 from edge 2i + 1 on, up to the next; the last one still after edge 2n.
abbrev pub MosiShows : Type 0
MosiShows =
    (q : Qspi) (pins : ℕ → Pins) → Starting q → Calm pins → (j d : ℕ) → j < bits_in (begun q) * 2 →
    d < gap (begun q) j → 0 < edge_clock (begun q) j + d → (cpha q.registers.spcr0 ≡ true → 0 < j) →
    (run pins (edge_clock (begun q) j + d) q).entry.mosi
    ≡ bit (bits_in (begun q) - 1 - bit_shown (cpha q.registers.spcr0) j) (begun q).entry.word

abbrev pub MosiHolds : Type 0
MosiHolds =
    (q : Qspi) (pins : ℕ → Pins) → Starting q → Calm pins →
    (run pins (last_clock (begun q)) q).entry.mosi ≡ bit 0 (begun q).entry.word

-- At edge 2n the bits that stood on MISO at the reading edges are stored as one word, and CPTQP set.
abbrev pub WordStored : Type 0
WordStored =
    (q : Qspi) (pins : ℕ → Pins) → Starting q → Calm pins →
    ((run pins (last_clock (begun q)) q).ram.receive
    ≡ set q.ram.receive (entry_at q) (word_of (bits_read (begun q) pins) (bits_in (begun q))))
    × ((run pins (last_clock (begun q)) q).spsr.cptqp ≡ entry_at q)

-- The unused bits of a word are zero, and the others are the bits in order.
abbrev pub UnusedZero : Type 0
UnusedZero = (bits : ℕ → Bool) (n : ℕ) → word_of bits n < 2 ^ n

abbrev pub BitsInOrder : Type 0
BitsInOrder = (bits : ℕ → Bool) (n i : ℕ) → i < n → bit (n - 1 - i) (word_of bits n) ≡ bits i

-- With SPE still set after edge 2n the delay runs; with HALT clear the clock after it is clock 1 of the next entry.
abbrev pub DelayRuns : Type 0
DelayRuns =
    (q : Qspi) (pins : ℕ → Pins) → Starting q → Calm pins → goes_on q ≡ true → (d : ℕ) → 0 < d →
    d < delay_in (begun q) →
    run pins (last_clock (begun q) + d) q ≡ waiting (run pins (last_clock (begun q)) q) (delay_in (begun q) - d)

abbrev pub NextStarts : Type 0
NextStarts =
    (q : Qspi) (pins : ℕ → Pins) → Starting q → Calm pins → goes_on q ≡ true → halt q.registers.spcr3 ≡ false →
    (run pins (length_in (begun q)) q ≡ waited (run pins (last_clock (begun q)) q))
    × Starting (run pins (length_in (begun q)) q)

-- The next entry waits for HALT to clear.
pub record Halted (q : Qspi) : Type 0 where
  pub on : spe q.registers.spcr1 ≡ true
  pub not_playing : q.entry.playing ≡ false
  pub not_delaying : q.entry.delaying ≡ false
  pub halted : q.entry.halted ≡ true
  pub fast : leb 2 (spbr_in q) ≡ true

-- With HALT set at the delay's last clock HALTA rises there and the queue halts, for as long as HALT is set;
-- after a write that clears it the next clock is clock 1.
abbrev pub HaltComes : Type 0
HaltComes =
    (q : Qspi) (pins : ℕ → Pins) → Starting q → Calm pins → goes_on q ≡ true → halt q.registers.spcr3 ≡ true →
    (run pins (length_in (begun q)) q ≡ stopped (run pins (last_clock (begun q)) q))
    × Halted (run pins (length_in (begun q)) q)

abbrev pub HaltHolds : Type 0
HaltHolds =
    (q : Qspi) (pins : ℕ → Pins) → Halted q → Calm pins → halt q.registers.spcr3 ≡ true → (d : ℕ) → run pins d q ≡ q

abbrev pub HaltReleases : Type 0
HaltReleases =
    (q : Qspi) (v : ℕ) (lower : Bool) → Halted q → bit 8 v ≡ false → Starting (write_spcr3_spsr q v true lower)

-- The last entry without WREN ends at edge 2n: SPIF rises and SPE falls.
abbrev pub QueueEnds : Type 0
QueueEnds =
    (q : Qspi) (pins : ℕ → Pins) → Starting q → Calm pins → goes_on q ≡ false →
    (spe (run pins (last_clock (begun q)) q).registers.spcr1 ≡ false) × ((run pins (last_clock (begun q)) q).spsr.flags.spif ≡ true)

-- The state r stands before clock 1 of entry number k, and the entries so far have kept what the others need.
pub record Before (q r : Qspi) (k : ℕ) : Type 0 where
  pub starts : Starting r
  pub here : entry_at r ≡ entry_no q k
  pub spcr0 : r.registers.spcr0 ≡ q.registers.spcr0
  pub spcr1 : r.registers.spcr1 ≡ q.registers.spcr1
  pub spcr2 : r.registers.spcr2 ≡ q.registers.spcr2
  pub spcr3 : r.registers.spcr3 ≡ q.registers.spcr3
  pub spif : r.spsr.flags.spif ≡ q.spsr.flags.spif
  pub transmit : r.ram.transmit ≡ q.ram.transmit
  pub commands : r.ram.commands ≡ q.ram.commands

-- The entries run from the pointer to ENDQP modulo 16, each one's clock 1 after the delay of the one before.
abbrev pub EntriesRun : Type 0
EntriesRun =
    (q : Qspi) (pins : ℕ → Pins) → Starting q → Calm pins → halt q.registers.spcr3 ≡ false → (k : ℕ) →
    k ≤ entries_before q → Before q (run pins (begins_at q k) q) k

-- With WREN the entry after the one at ENDQP is 0, or NEWQP if WRTO.
abbrev pub QueueWraps : Type 0
QueueWraps =
    (q : Qspi) (pins : ℕ → Pins) → Starting q → Calm pins → halt q.registers.spcr3 ≡ false →
    entry_at q ≡ endqp q.registers.spcr2 → wren q.registers.spcr2 ≡ true →
    ((run pins (last_clock (begun q)) q).spsr.flags.spif ≡ true)
    × (entry_at (run pins (length_in (begun q)) q) ≡ wrap_to q.registers.spcr2)

-- Without WREN the queue ends at edge 2n of the entry at ENDQP, and not sooner.
abbrev pub LastOfQueue : Type 0
LastOfQueue =
    (q : Qspi) (pins : ℕ → Pins) → Starting q → Calm pins → halt q.registers.spcr3 ≡ false → wren q.registers.spcr2 ≡ false →
    QueueOver q (run pins (ends_at q) q)

abbrev pub NotSooner : Type 0
NotSooner =
    (q : Qspi) (pins : ℕ → Pins) → Starting q → Calm pins → halt q.registers.spcr3 ≡ false → q.spsr.flags.spif ≡ false → (c : ℕ) →
    c < ends_at q → (spe (run pins c q).registers.spcr1 ≡ true) × ((run pins c q).spsr.flags.spif ≡ false)

-- A mode fault and a write that clears SPE abandon the entry: nothing is stored.
pub record Abandoned (q r : Qspi) : Type 0 where
  pub off : spe r.registers.spcr1 ≡ false
  pub not_playing : r.entry.playing ≡ false
  pub receive : r.ram.receive ≡ q.ram.receive
  pub cptqp : r.spsr.cptqp ≡ q.spsr.cptqp
  pub spif : r.spsr.flags.spif ≡ q.spsr.flags.spif

abbrev pub FaultAbandons : Type 0
FaultAbandons =
    (q : Qspi) (pins : Pins) → fault_now q pins ≡ true → Abandoned q (clock q pins) × ((clock q pins).spsr.flags.modf ≡ true)

abbrev pub WriteAbandons : Type 0
WriteAbandons =
    (q : Qspi) (v : ℕ) (lower : Bool) → spe q.registers.spcr1 ≡ true → spe v ≡ false →
    Abandoned q (write_spcr1 q v true lower)
