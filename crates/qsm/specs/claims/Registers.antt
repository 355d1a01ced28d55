-- Document 01, Register map, as a host sees it: the map's own numbers, and what a supervisor's reads and writes answer, so that no definition that
-- makes, keeps or finds a register can be wrong unnoticed. What no answer shows is said of the state: that a frame runs (`AtRest`), the sizes of
-- fields (`Sized`), and the word of which SCDR shows nine bits (`NineBits`).
use Rattle.std.specs.Prelude.{◌≡◌, Bool, true, false, cond, ◌&&◌, ◌||◌, List, [], ◌∷◌, ℕ, zero, suc, ◌+◌, ◌*◌, ◌/◌, ◌%◌, ◌<◌, eqb, leb, length}
use Rattle.std.specs.Int.Bits.{bit_and, bit_or}
use Rattle.steps.specs.Bits.{bit}
use Rattle.sci.specs.model.Transmitter.{runs}
use Rattle.qsm.specs.model.Event.{step}
use Rattle.qsm.specs.declared.state.Module.{Module}
use Rattle.qsm.specs.declared.event.Access.TheVariants.{Read, Write}
use Rattle.qsm.specs.declared.event.Event.{Event}
use Rattle.qsm.specs.declared.event.Event.TheVariants.{Reset, Hold}
use Rattle.qsm.specs.declared.event.Event.TheVariants as event
use Rattle.qsm.specs.declared.event.Answer.{Answer}
use Rattle.qsm.specs.declared.event.Stepped.{Stepped}

-- A word of the map: its offset, its value after a reset, the bits that a word write sets as written, those that read one, and those with
-- rules of their own (flags, data, pins). A bit in none of the three reads zero.
pub record Row : Type 0 where
  pub offset : ℕ
  pub reset : ℕ
  pub kept : ℕ
  pub ones : ℕ
  pub own : ℕ

abbrev pub row : ℕ → ℕ → ℕ → ℕ → ℕ → Row
row offset reset kept ones own = record { offset = offset; reset = reset; kept = kept; ones = ones; own = own }

-- In the paper's order: QSMCR; QILR and QIVR; SCCR0; SCCR1; SCSR; SCDR; PORTQS beside byte 14; PQSPAR and DDRQS; SPCR0; SPCR1; SPCR2;
-- SPCR3 and SPSR. STOP, FRZ, LOOPS, WOMS, SBK, WOMQ and LOOPQ, which no write can set, are kept in none.
abbrev pub registers : List Row
registers =
    row 0x00 0x0080 0x008F 0 0
    ∷ row 0x04 0x000F 0x3FFE 1 0
    ∷ row 0x08 0x0004 0x1FFF 0 0
    ∷ row 0x0A 0x0000 0x1FFE 0 0
    ∷ row 0x0C 0x0180 0x0000 0 0x01FF
    ∷ row 0x0E 0x0000 0x0000 0 0x01FF
    ∷ row 0x14 0x0000 0x0000 0 0x00FF
    ∷ row 0x16 0x0000 0x7BFF 0 0
    ∷ row 0x18 0x0104 0xBFFF 0 0
    ∷ row 0x1A 0x0404 0xFFFF 0 0
    ∷ row 0x1C 0x0000 0xEF0F 0 0
    ∷ row 0x1E 0x0000 0x0300 0 0x00EF
    ∷ []

-- A byte is in the map: of one of these words, or of the RAM, 100 to 14F.
abbrev pub listed : List Row → ℕ → Bool
listed [] b = leb 0x100 b && leb b 0x14F
listed (r ∷ rs) b = eqb b r.offset || eqb b (r.offset + 1) || listed rs b

-- The byte after a reset. Words are big-endian; the RAM is 0.
abbrev pub reset_byte : List Row → ℕ → ℕ
reset_byte [] b = 0
reset_byte (r ∷ rs) b =
    cond (eqb b r.offset) (r.reset / 256) (cond (eqb b (r.offset + 1)) (r.reset % 256) (reset_byte rs b))

-- So many bytes from an offset on: all are in the map; and their value.
abbrev pub in_map : ℕ → ℕ → Bool
in_map zero offset = true
in_map (suc n) offset = in_map n offset && listed registers (offset + n)

abbrev pub reset_value : ℕ → ℕ → ℕ
reset_value zero offset = 0
reset_value (suc n) offset = reset_value n offset * 256 + reset_byte registers (offset + n)

-- A supervisor's read and write, of so many bytes at an offset.
abbrev pub reading : Module → ℕ → ℕ → Answer
reading m width offset = (step m (event.Access (Read true width offset))).answer

abbrev pub writing : Module → ℕ → ℕ → ℕ → Stepped
writing m width offset value = step m (event.Access (Write true width offset value))

-- A read after a reset: refusal 2 exactly if a byte is not in the map, and else the bytes after reset.
pub record AfterReset (m : Module) (width offset : ℕ) : Type 0 where
  pub refusal : (reading (step m Reset).state width offset).refusal ≡ cond (in_map width offset) 0 2
  pub value : (reading (step m Reset).state width offset).value ≡ cond (in_map width offset) (reset_value width offset) 0

-- Of every byte, and of every word and long at an even offset.
pub record ResetReads (m : Module) : Type 0 where
  pub bytes : (offset : ℕ) → AfterReset m 1 offset
  pub words : (k : ℕ) → AfterReset m 2 (k * 2)
  pub longs : (k : ℕ) → AfterReset m 4 (k * 2)

abbrev pub Each : (Row → Type 0) → List Row → Type 0
Each P [] = Unit
Each P (r ∷ rs) = P r × Each P rs

-- Both halves off and at rest: SPE (15 of SPCR1), TE (3 of SCCR1) and RE (2) clear, and no frame or preamble runs.
pub record AtRest (m : Module) : Type 0 where
  pub SPE : bit 15 (reading m 2 0x1A).value ≡ false
  pub TE : bit 3 (reading m 2 0x0A).value ≡ false
  pub RE : bit 2 (reading m 2 0x0A).value ≡ false
  pub frame : runs m.sci.transmitter ≡ false

-- The bits of a word whose setting is refused: STOP and FRZ; LOOPS, WOMS and SBK; WOMQ; SPE (with MSTR clear); LOOPQ.
abbrev pub refused_bits : ℕ → ℕ
refused_bits offset =
    cond (eqb offset 0x00) 0xE000
    (cond (eqb offset 0x0A) 0x6001
    (cond (eqb offset 0x18) 0x4000 (cond (eqb offset 0x1A) 0x8000 (cond (eqb offset 0x1E) 0x0400 0))))

-- And BITS (13:10 of SPCR0) 1 to 7.
abbrev pub refused_field : ℕ → ℕ → Bool
refused_field offset v = eqb offset 0x18 && (leb 1 (v / 1024 % 16) && leb (v / 1024 % 16) 7)

-- At rest a word of the map without these is let through.
abbrev pub Accepted : Module → ℕ → Row → Type 0
Accepted m v r =
    bit_and v (refused_bits r.offset) ≡ 0 → refused_field r.offset v ≡ false → (writing m 2 r.offset v).answer.refusal ≡ 0

abbrev pub Accepts : Type 0
Accepts = (m : Module) (v : ℕ) → AtRest m → v < 65536 → Each (Accepted m v) registers

-- What every module has, whose fields are bytes and arrays: pins are eight, and the RAM has sixteen receive words, transmit words and command
-- bytes.
pub record Sized (m : Module) : Type 0 where
  pub inputs : m.inputs < 256
  pub directions : m.ddrqs < 256
  pub receive : length m.qspi.ram.receive ≡ 16
  pub transmit : length m.qspi.ram.transmit ≡ 16
  pub commands : length m.qspi.ram.commands ≡ 16

-- A hold has eight pins.
abbrev pub Eight : Event → Type 0
Eight Reset = Unit
Eight (Hold pins rxd n) = pins < 256
Eight (event.Access a) = Unit

-- A reset leaves a module so, and every event keeps it so.
pub record Sizes : Type 0 where
  pub reset : (m : Module) → Sized (step m Reset).state
  pub kept : (m : Module) (e : Event) → Sized m → Eight e → Sized (step m e).state

-- A word written and not refused reads back: the bits kept, those that read one, and those with rules of their own; no other. In any state.
abbrev pub shown : Module → ℕ → Row → ℕ
shown m v r = (reading (writing m 2 r.offset v).state 2 r.offset).value

abbrev pub ReadBack : Module → ℕ → Row → Type 0
ReadBack m v r =
    (writing m 2 r.offset v).answer.refusal ≡ 0 →
    shown m v r ≡ bit_or (bit_and v r.kept) r.ones + bit_and (shown m v r) r.own

abbrev pub ReadsBack : Type 0
ReadsBack = (m : Module) → Sized m → (v : ℕ) → Each (ReadBack m v) registers

-- A write of RAM is not refused; the place reads what was written, and every other what it read before.
pub record RamWrite (m : Module) (width i j v : ℕ) : Type 0 where
  pub refusal : (writing m width (0x100 + i * width) v).answer.refusal ≡ 0
  pub value :
      (reading (writing m width (0x100 + i * width) v).state width (0x100 + j * width)).value
      ≡ cond (eqb i j) v (reading m width (0x100 + j * width)).value

-- The 40 words and the 80 bytes.
pub record RamReadsBack : Type 0 where
  pub words : (m : Module) → Sized m → (i j v : ℕ) → i < 40 → j < 40 → v < 65536 → RamWrite m 2 i j v
  pub bytes : (m : Module) → Sized m → (i j v : ℕ) → i < 80 → j < 80 → v < 256 → RamWrite m 1 i j v

-- A word written, refused or not, changes no other word as it is read, but for SCSR and PORTQS (0C and 14).
abbrev pub Elsewhere : Type 0
Elsewhere =
    (m : Module) → Sized m → (i j v : ℕ) → (i ≡ j → ⊥) → (j * 2 ≡ 0x0C → ⊥) → (j * 2 ≡ 0x14 → ⊥) →
    (reading (writing m 2 (i * 2) v).state 2 (j * 2)).value ≡ (reading m 2 (j * 2)).value

-- In any state: a byte is that byte of its word, big-endian, a long is two words; and SCDR shows nine bits of the receiver's side.
pub record Widths (m : Module) (k : ℕ) : Type 0 where
  pub upper : (reading m 1 (k * 2)).value ≡ (reading m 2 (k * 2)).value / 256 % 256
  pub lower : (reading m 1 (k * 2 + 1)).value ≡ (reading m 2 (k * 2)).value % 256
  pub long :
      (reading m 4 (k * 2)).refusal ≡ 0 →
      (reading m 4 (k * 2)).value ≡ (reading m 2 (k * 2)).value % 65536 * 65536 + (reading m 2 (k * 2 + 2)).value

abbrev pub NineBits : Type 0
NineBits = (m : Module) → (reading m 2 0x0E).value ≡ m.sci.receiver.scdr % 512

pub record Registers : Type 0 where
  pub reset_reads : (m : Module) → ResetReads m
  pub reads_back : ReadsBack
  pub accepts : Accepts
  pub ram_reads_back : RamReadsBack
  pub sizes : Sizes
  pub widths : (m : Module) (k : ℕ) → Widths m k
  pub nine_bits : NineBits
  pub elsewhere : Elsewhere
