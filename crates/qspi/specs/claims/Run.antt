-- A run of the queue with no access in between, and the clocks of an entry.
use Rattle.std.specs.Prelude.{Bool, true, false, cond, ℕ, zero, suc, ◌+◌, ◌-◌, ◌*◌, ◌/◌, ◌%◌, get_or}
use Rattle.steps.specs.Bits.{digit}
use Rattle.qspi.specs.model.Fields.{cpha, spbr, endqp, cont, bits_of, pre_delay, delay_after}
use Rattle.qspi.specs.model.Parts.{with_spsr, with_entry}
use Rattle.qspi.specs.model.Spsr.{raised, halta_if}
use Rattle.qspi.specs.model.Entry.{mosi_after, collected_after, with_bits, with_place}
use Rattle.qspi.specs.model.Queue.{entry_at, miso_of, clock}
use Rattle.qspi.specs.declared.Qspi.{Qspi}
use Rattle.qspi.specs.declared.Pins.{Pins}

-- The state after c clocks; `pins c` are the pins in clock c, from 1 on.
unfoldable pub run : (ℕ → Pins) → ℕ → Qspi → Qspi
run pins zero q = q
run pins (suc c) q = clock (run pins c q) (pins (suc c))

-- Of a queue with an entry begun: its bits n, its pre-delay p, SPBR, and the delay after it.
abbrev pub bits_in : Qspi → ℕ
bits_in e = bits_of e.registers.spcr0 e.entry.command

abbrev pub pre_in : Qspi → ℕ
pre_in e = pre_delay e.registers.spcr0 e.registers.spcr1 e.entry.command

abbrev pub spbr_in : Qspi → ℕ
spbr_in e = spbr e.registers.spcr0

abbrev pub delay_in : Qspi → ℕ
delay_in e = delay_after e.registers.spcr1 e.entry.command

-- Edge j falls at clock p + (j - 1) x SPBR of the entry; 'edge 0' is its beginning.
abbrev pub edge_at : ℕ → ℕ → ℕ → ℕ
edge_at p s zero = 0
edge_at p s (suc j) = p + j * s

abbrev pub edge_clock : Qspi → ℕ → ℕ
edge_clock e j = edge_at (pre_in e) (spbr_in e) j

-- Clocks from edge j to the next.
abbrev pub gap : Qspi → ℕ → ℕ
gap e zero = pre_in e
gap e (suc j) = spbr_in e

-- The clock of edge 2n, and the entry's length with its delay, from SPCR0, SPCR1 and the command.
abbrev pub last_clock_of : ℕ → ℕ → ℕ → ℕ
last_clock_of spcr0 spcr1 command =
    edge_at (pre_delay spcr0 spcr1 command) (spbr spcr0) (bits_of spcr0 command * 2)

abbrev pub length_of : ℕ → ℕ → ℕ → ℕ
length_of spcr0 spcr1 command = last_clock_of spcr0 spcr1 command + delay_after spcr1 command

abbrev pub last_clock : Qspi → ℕ
last_clock e = last_clock_of e.registers.spcr0 e.registers.spcr1 e.entry.command

abbrev pub length_in : Qspi → ℕ
length_in e = length_of e.registers.spcr0 e.registers.spcr1 e.entry.command

-- MOSI and the bits read, when j edges of the entry have fallen.
unfoldable pub mosi_by : Qspi → ℕ → Bool
mosi_by e zero = e.entry.mosi
mosi_by e (suc j) = mosi_after (cpha e.registers.spcr0) (bits_in e) e.entry.word (suc j) (mosi_by e j)

unfoldable pub collected_by : Qspi → (ℕ → Pins) → ℕ → ℕ
collected_by e pins zero = e.entry.collected
collected_by e pins (suc j) =
    collected_after (cpha e.registers.spcr0) (suc j) (miso_of (pins (edge_clock e (suc j)))) (collected_by e pins j)

-- The entry when j edges have fallen and the next is `left` clocks off.
abbrev pub during : Qspi → (ℕ → Pins) → ℕ → ℕ → Qspi
during e pins j left = with_entry e (with_bits e.entry left j (mosi_by e j) (collected_by e pins j))

-- In the delay, and after it, when HALT is clear. PCS stay only with CONT.
abbrev pub waiting : Qspi → ℕ → Qspi
waiting q left =
    with_entry q
    (with_place q.entry q.entry.playing q.entry.delaying q.entry.halted left q.entry.edges (cont q.entry.command))

abbrev pub waited : Qspi → Qspi
waited q = with_entry q (with_place q.entry false false false 0 q.entry.edges (cont q.entry.command))

-- After it when HALT is set: HALTA has risen.
abbrev pub stopped : Qspi → Qspi
stopped q =
    with_entry (with_spsr q (raised (halta_if true) q.spsr))
    (with_place q.entry false false true 0 q.entry.edges (cont q.entry.command))

-- The bit of the word, counted from its highest, that MOSI shows when j edges have fallen.
abbrev pub bit_shown : Bool → ℕ → ℕ
bit_shown cpha j = cond cpha ((j - 1) / 2) (j / 2)

-- The edge on which bit i of the n is read, counted from the first: odd edges for CPHA=0, even for CPHA=1.
abbrev pub reading_edge : Bool → ℕ → ℕ
reading_edge cpha i = cond cpha (i * 2 + 2) (i * 2 + 1)

-- The first n bits as a word, the first one highest.
unfoldable pub word_of : (ℕ → Bool) → ℕ → ℕ
word_of bits zero = 0
word_of bits (suc i) = word_of bits i * 2 + digit (bits i)

-- The bits that stand on MISO at the reading edges of an entry.
abbrev pub bits_read : Qspi → (ℕ → Pins) → ℕ → Bool
bits_read e pins i = miso_of (pins (edge_clock e (reading_edge (cpha e.registers.spcr0) i)))

-- Entry number k of a queue that starts at q, its command, and the clocks before its clock 1.
abbrev pub entry_no : Qspi → ℕ → ℕ
entry_no q k = (entry_at q + k) % 16

abbrev pub command_no : Qspi → ℕ → ℕ
command_no q k = get_or q.ram.commands (entry_no q k) 0

unfoldable pub begins_at : Qspi → ℕ → ℕ
begins_at q zero = 0
begins_at q (suc k) = begins_at q k + length_of q.registers.spcr0 q.registers.spcr1 (command_no q k)

-- How many entries stand before the one at ENDQP, modulo 16.
abbrev pub entries_before : Qspi → ℕ
entries_before q = (endqp q.registers.spcr2 + 16 - entry_at q) % 16

-- The clock of edge 2n of the entry at ENDQP.
abbrev pub ends_at : Qspi → ℕ
ends_at q = begins_at q (entries_before q) + last_clock_of q.registers.spcr0 q.registers.spcr1 (command_no q (entries_before q))
