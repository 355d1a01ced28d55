-- Document 01, Queue: an entry clock by clock, from clock 1 to the end of its delay, as it shows on the pins, in SPSR and in the RAM. The queue
-- stands before clock 1 of entry i; there is no mode fault, and no write.
use Rattle.std.specs.Prelude.{◌≡◌, Bool, false, cond, not, ◌||◌, ℕ, ◌+◌, ◌-◌, ◌*◌, ◌/◌, ◌%◌, ◌^◌, ◌<◌, eqb, get_or, set}
use Rattle.steps.specs.Bits.{bit}
use Rattle.qspi.specs.model.Outputs.{sck, mosi, pcs}
use Rattle.qspi.specs.claims.Run.{run, word_of}
use Rattle.qspi.specs.declared.Qspi.{Qspi}
use Rattle.qspi.specs.declared.Pins.{Pins}
use Rattle.claims_queue.specs.Numbers.{bits, pre, delay, edge, is_last, ends, miso, Calm, Next}

-- The command and the transmit word of entry i are those of the RAM at clock 1.
abbrev pub command : Qspi → ℕ → ℕ
command q i = get_or q.ram.commands i 0

abbrev pub word : Qspi → ℕ → ℕ
word q i = get_or q.ram.transmit i 0

abbrev pub n : Qspi → ℕ → ℕ
n q i = bits q.registers.spcr0 (command q i)

abbrev pub edge_at : Qspi → ℕ → ℕ → ℕ
edge_at q i j = edge q.registers.spcr0 q.registers.spcr1 (command q i) j

-- The clock of edge 2n.
abbrev pub last_at : Qspi → ℕ → ℕ
last_at q i = edge_at q i (n q i * 2)

abbrev pub CPOL : Qspi → Bool
CPOL q = bit 9 q.registers.spcr0

abbrev pub CPHA : Qspi → Bool
CPHA q = bit 8 q.registers.spcr0

-- MOSI when j edges have fallen: the low n bits of the word, highest first; with CPHA=0 the first one from clock 1 on and a new one with each even
-- edge, with CPHA=1 a new one with each odd edge, before which it holds.
abbrev pub mosi_at : Qspi → ℕ → ℕ → Bool
mosi_at q i j =
    cond (CPHA q) (cond (eqb j 0) q.entry.mosi (bit (n q i - 1 - (j - 1) / 2) (word q i)))
    (bit (n q i - 1 - j / 2) (word q i))

-- When j edges, and not 2n, have fallen. Nothing else changes: CPTQP and the flags, the RAM and the registers are as before clock 1.
pub record Playing (q : Qspi) (i j : ℕ) (r : Qspi) : Type 0 where
  pub SCK : sck r ≡ cond (eqb (j % 2) 1) (not (CPOL q)) (CPOL q)
  pub MOSI : mosi r ≡ mosi_at q i j
  pub Pcs : (portqs : ℕ) → pcs r portqs ≡ command q i % 16
  pub spsr : r.spsr ≡ q.spsr
  pub ram : r.ram ≡ q.ram
  pub registers : r.registers ≡ q.registers

-- Bit k of the n, from the highest, is MISO at odd edge 2k + 1 for CPHA=0, at even edge 2k + 2 for CPHA=1.
abbrev pub read_at : Qspi → ℕ → (ℕ → Pins) → ℕ → Bool
read_at q i pins k = miso (pins (edge_at q i (cond (CPHA q) (k * 2 + 2) (k * 2 + 1))))

-- At edge 2n: the word is stored in receive word i and CPTQP is i; SPIF rises exactly if i is ENDQP, and there SPE falls unless WREN is set.
pub record Complete (q : Qspi) (i : ℕ) (pins : ℕ → Pins) (r : Qspi) : Type 0 where
  pub SCK : sck r ≡ CPOL q
  pub MOSI : mosi r ≡ bit 0 (word q i)
  pub Pcs : ends q.registers.spcr2 i ≡ false → (portqs : ℕ) → pcs r portqs ≡ command q i % 16
  pub receive : r.ram.receive ≡ set q.ram.receive i (word_of (read_at q i pins) (n q i))
  pub transmit : r.ram.transmit ≡ q.ram.transmit
  pub commands : r.ram.commands ≡ q.ram.commands
  pub CPTQP : r.spsr.cptqp ≡ i
  pub SPIF : r.spsr.flags.spif ≡ is_last q.registers.spcr2 i || q.spsr.flags.spif
  pub MODF : r.spsr.flags.modf ≡ q.spsr.flags.modf
  pub HALTA : r.spsr.flags.halta ≡ q.spsr.flags.halta
  pub seen : r.spsr.seen ≡ q.spsr.seen
  pub SPE : bit 15 r.registers.spcr1 ≡ not (ends q.registers.spcr2 i)
  pub spcr1 : r.registers.spcr1 % 32768 ≡ q.registers.spcr1 % 32768
  pub spcr0 : r.registers.spcr0 ≡ q.registers.spcr0
  pub spcr2 : r.registers.spcr2 ≡ q.registers.spcr2
  pub spcr3 : r.registers.spcr3 ≡ q.registers.spcr3

-- In the delay the Pcs hold the command's value with CONT (7 of the command), else they show PORTQS; nothing else changes after edge 2n.
abbrev pub pcs_after : Qspi → ℕ → ℕ → ℕ
pcs_after q i portqs = cond (bit 7 (command q i)) (command q i % 16) (portqs / 8 % 16)

pub record Waiting (q : Qspi) (i : ℕ) (l r : Qspi) : Type 0 where
  pub SCK : sck r ≡ CPOL q
  pub MOSI : mosi r ≡ bit 0 (word q i)
  pub Pcs : (portqs : ℕ) → pcs r portqs ≡ pcs_after q i portqs
  pub ram : r.ram ≡ l.ram
  pub spsr : r.spsr ≡ l.spsr
  pub registers : r.registers ≡ l.registers

pub record Entry (q : Qspi) (i : ℕ) (pins : ℕ → Pins) : Type 0 where
  pub before :
      (c : ℕ) → 0 < c → c < pre q.registers.spcr0 q.registers.spcr1 (command q i) → Playing q i 0 (run pins c q)
  pub edges :
      (j d : ℕ) → 0 < j → j < n q i * 2 → d < q.registers.spcr0 % 256 → Playing q i j (run pins (edge_at q i j + d) q)
  pub last : Complete q i pins (run pins (last_at q i) q)
  pub after :
      ends q.registers.spcr2 i ≡ false → (d : ℕ) → 0 < d → d < delay q.registers.spcr1 (command q i) →
      Waiting q i (run pins (last_at q i) q) (run pins (last_at q i + d) q)

abbrev pub Entries : Type 0
Entries = (q : Qspi) (i : ℕ) (pins : ℕ → Pins) → Next q i → Calm pins → Entry q i pins

-- The word: bit k from the highest is the k-th read, and the unused bits are zero.
pub record Word (levels : ℕ → Bool) (n : ℕ) : Type 0 where
  pub bits : (k : ℕ) → k < n → bit (n - 1 - k) (word_of levels n) ≡ levels k
  pub unused : word_of levels n < 2 ^ n

abbrev pub Words : Type 0
Words = (levels : ℕ → Bool) (n : ℕ) → Word levels n
