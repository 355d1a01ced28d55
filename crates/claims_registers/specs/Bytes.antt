-- Document 01, Register map: a byte of a register written by itself. It reads back as that byte of a word would, and the other byte of the word
-- reads what it read before. In any module.
use Rattle.std.specs.Prelude.{◌≡◌, List, [], ◌∷◌, ℕ, ◌+◌, ◌*◌, ◌/◌, ◌%◌}
use Rattle.std.specs.Int.Bits.{bit_and, bit_or}
use Rattle.qsm.specs.claims.Registers.{Row, row, Each, reading, writing}
use Rattle.qsm.specs.declared.state.Module.{Module}
use Rattle.claims_registers.specs.Formed.{Formed}

-- The words whose bits have no rules of their own, with the bits that a write sets as written and those that read one: QSMCR; QILR and QIVR;
-- SCCR0; SCCR1; PQSPAR and DDRQS; SPCR0; SPCR1; SPCR2.
abbrev pub plain : List Row
plain =
    row 0x00 0x0080 0x008F 0 0
    ∷ row 0x04 0x000F 0x3FFE 1 0
    ∷ row 0x08 0x0004 0x1FFF 0 0
    ∷ row 0x0A 0x0000 0x1FFE 0 0
    ∷ row 0x16 0x0000 0x7BFF 0 0
    ∷ row 0x18 0x0104 0xBFFF 0 0
    ∷ row 0x1A 0x0404 0xFFFF 0 0
    ∷ row 0x1C 0x0000 0xEF0F 0 0
    ∷ []

-- The upper byte, at the even offset, and the lower.
pub record UpperWritten (m n : Module) (v : ℕ) (r : Row) : Type 0 where
  pub written : (reading n 1 r.offset).value ≡ bit_or (bit_and (v * 256) r.kept) r.ones / 256
  pub other : (reading n 1 (r.offset + 1)).value ≡ (reading m 1 (r.offset + 1)).value

pub record LowerWritten (m n : Module) (v : ℕ) (r : Row) : Type 0 where
  pub written : (reading n 1 (r.offset + 1)).value ≡ bit_or (bit_and v r.kept) r.ones % 256
  pub other : (reading n 1 r.offset).value ≡ (reading m 1 r.offset).value

pub record ByteWritten (m : Module) (v : ℕ) (r : Row) : Type 0 where
  pub upper : (writing m 1 r.offset v).answer.refusal ≡ 0 → UpperWritten m (writing m 1 r.offset v).state v r
  pub lower : (writing m 1 (r.offset + 1) v).answer.refusal ≡ 0 → LowerWritten m (writing m 1 (r.offset + 1) v).state v r

abbrev pub BytesBack : Type 0
BytesBack = (m : Module) → Formed m → (v : ℕ) → Each (ByteWritten m v) plain

-- SPCR3 (1E) keeps HMIE 1 and HALT 0 beside SPSR (1F), which a write of it leaves; and a write of SPSR leaves SPCR3.
pub record HaltByte (m : Module) (v : ℕ) : Type 0 where
  pub written : (writing m 1 0x1E v).answer.refusal ≡ 0 → (reading (writing m 1 0x1E v).state 1 0x1E).value ≡ v % 4
  pub SPSR : (writing m 1 0x1E v).answer.refusal ≡ 0 → (reading (writing m 1 0x1E v).state 1 0x1F).value ≡ (reading m 1 0x1F).value
  pub SPCR3 : (writing m 1 0x1F v).answer.refusal ≡ 0 → (reading (writing m 1 0x1F v).state 1 0x1E).value ≡ (reading m 1 0x1E).value

-- Byte 14 has no bits: a write of it does nothing at all.
abbrev pub Byte14 : Type 0
Byte14 = (m : Module) (v : ℕ) → (writing m 1 0x14 v).answer.refusal ≡ 0 → (writing m 1 0x14 v).state ≡ m
