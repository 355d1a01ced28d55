-- One clock of the queue: clock 1 of an entry, its edges, what edge 2n leaves, the delay, halt and mode fault.
use Rattle.std.specs.Prelude.{Bool, true, false, cond, not, ◌&&◌, ℕ, ◌+◌, ◌*◌, ◌%◌, eqb, leb, get_or}
use Rattle.steps.specs.Bits.{bit}
use Rattle.qspi.specs.model.Fields.{mstr, spbr, spe, wren, wrto, endqp, newqp, halt, bits_of, delay_after}
use Rattle.qspi.specs.model.Parts.{with_spsr, with_next, with_entry}
use Rattle.qspi.specs.model.Spsr.{raised, only_spif, only_modf, halta_if, with_cptqp}
use Rattle.qspi.specs.model.Registers.{disabled}
use Rattle.qspi.specs.model.Ram.{with_received}
use Rattle.qspi.specs.model.Entry.{started, edge_fallen, ticked, delay_begun, in_delay, delay_over, abandoned}
use Rattle.qspi.specs.declared.Qspi.{Qspi}
use Rattle.qspi.specs.declared.Pins.{Pins}
use Rattle.qspi.specs.declared.queue.Next.{Next}

-- Where clock 1 takes the entry: a pending NEWQP wins.
abbrev pub entry_at : Qspi → ℕ
entry_at q = cond q.next.pending (newqp q.registers.spcr2) (q.next.pointer % 16)

-- Clock 1 takes the working copy, the command and the transmit word.
abbrev pub begun_at : ℕ → Qspi → Qspi
begun_at at q =
    with_entry (with_next q (record { working = q.registers.spcr2; pointer = at; pending = false }))
    (started q.registers (get_or q.ram.commands at 0) (get_or q.ram.transmit at 0) q.entry.mosi)

abbrev pub begun : Qspi → Qspi
begun q = begun_at (entry_at q) q

-- At edge 2n the receive word is stored and CPTQP set; then the delay.
abbrev pub stored : Qspi → Qspi
stored q =
    record {
      registers = q.registers;
      spsr = with_cptqp q.spsr (q.next.pointer % 16);
      next = q.next;
      entry = delay_begun (delay_after q.registers.spcr1 q.entry.command) q.entry;
      ram = with_received q.ram (q.next.pointer % 16) q.entry.collected;
    }

-- The end of the queue without WREN: SPIF rises and SPE falls.
abbrev pub finished : Qspi → Qspi
finished q =
    record {
      registers = disabled q.registers;
      spsr = raised only_spif q.spsr;
      next = q.next;
      entry = abandoned q.entry;
      ram = q.ram;
    }

abbrev pub with_pointer : Next → ℕ → Next
with_pointer n i = record { working = n.working; pointer = i; pending = n.pending }

-- With it: SPIF rises and the pointer goes to 0, or NEWQP if WRTO.
abbrev pub wrap_to : ℕ → ℕ
wrap_to working = cond (wrto working) (newqp working) 0

abbrev pub wrapped : Qspi → Qspi
wrapped q = with_next (with_spsr q (raised only_spif q.spsr)) (with_pointer q.next (wrap_to q.next.working))

abbrev pub advanced : Qspi → Qspi
advanced q = with_next q (with_pointer q.next ((q.next.pointer % 16 + 1) % 16))

-- The entry at the working ENDQP; the working WREN.
abbrev pub is_last : Qspi → Bool
is_last q = eqb (q.next.pointer % 16) (endqp q.next.working)

abbrev pub wraps : Qspi → Bool
wraps q = wren q.next.working

-- After the store, by these two.
abbrev pub followed : Bool → Bool → Qspi → Qspi
followed true true q = wrapped q
followed true false q = finished q
followed false wren q = advanced q

unfoldable pub completed : Qspi → Qspi
completed q = followed (is_last q) (wraps q) (stored q)

-- Is edge j edge 2n?
abbrev pub judged : Bool → Qspi → Qspi
judged true q = completed q
judged false q = q

unfoldable pub edge : ℕ → Bool → Qspi → Qspi
edge j miso q =
    judged (leb (bits_of q.registers.spcr0 q.entry.command * 2) j)
    (with_entry q (edge_fallen q.registers.spcr0 j miso q.entry))

-- A clock between clock 1 and edge 2n: an edge falls in it, or none.
abbrev pub counted : Bool → Bool → Qspi → Qspi
counted true miso q = edge (q.entry.edges % 32 + 1) miso q
counted false miso q = with_entry q (ticked q.entry)

unfoldable pub play_clock : Bool → Qspi → Qspi
play_clock miso q = counted (leb q.entry.left 1) miso q

-- A clock of the delay; in its last HALT is asked, and HALTA rises with it.
abbrev pub delayed : Bool → Qspi → Qspi
delayed true q =
    with_entry (with_spsr q (raised (halta_if (halt q.registers.spcr3)) q.spsr))
    (delay_over (halt q.registers.spcr3) q.entry)
delayed false q = with_entry q (in_delay q.entry)

unfoldable pub delay_clock : Qspi → Qspi
delay_clock q = delayed (leb q.entry.left 1) q

-- Before clock 1: no entry starts with SPBR 0 or 1, nor while halted and HALT set.
abbrev pub ready : Qspi → Bool
ready q = leb 2 (spbr q.registers.spcr0) && not (q.entry.halted && halt q.registers.spcr3)

abbrev pub start_if : Bool → Bool → Qspi → Qspi
start_if true miso q = play_clock miso (begun q)
start_if false miso q = q

unfoldable pub start_clock : Bool → Qspi → Qspi
start_clock miso q = start_if (ready q) miso q

-- One clock with SPE set, by where the entry stands: playing, in its delay, or before clock 1.
abbrev pub clock_at : Bool → Bool → Bool → Qspi → Qspi
clock_at true delaying miso q = play_clock miso q
clock_at false true miso q = delay_clock q
clock_at false false miso q = start_clock miso q

abbrev pub clock_if : Bool → Bool → Qspi → Qspi
clock_if true miso q = clock_at q.entry.playing q.entry.delaying miso q
clock_if false miso q = q

unfoldable pub queue_clock : Bool → Qspi → Qspi
queue_clock miso q = clock_if (spe q.registers.spcr1) miso q

-- The level of MISO: zero unless it is assigned and an input.
abbrev pub miso_of : Pins → Bool
miso_of pins = (bit 0 pins.pqspar && not (bit 0 pins.ddrqs)) && bit 0 pins.levels

-- PQS3 assigned, input and low.
abbrev pub selected : Pins → Bool
selected pins = (bit 3 pins.pqspar && not (bit 3 pins.ddrqs)) && not (bit 3 pins.levels)

abbrev pub fault_now : Qspi → Pins → Bool
fault_now q pins = (spe q.registers.spcr1 && mstr q.registers.spcr0) && selected pins

-- Mode fault: MODF rises, SPE falls, the entry is abandoned and stores nothing.
abbrev pub faulted : Bool → Qspi → Qspi
faulted true q =
    record {
      registers = disabled q.registers;
      spsr = raised only_modf q.spsr;
      next = q.next;
      entry = abandoned q.entry;
      ram = q.ram;
    }
faulted false q = q

-- One system clock: mode fault, then the queue.
unfoldable pub clock : Qspi → Pins → Qspi
clock q pins = queue_clock (miso_of pins) (faulted (fault_now q pins) q)
