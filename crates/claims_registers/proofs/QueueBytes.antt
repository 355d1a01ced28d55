-- Bytes of the queue half's registers. Assumes nothing.
use mathlib.Core.Path.{◌≡◌, refl, sym, ap, ◌∙◌}
use mathlib.Core.Bool.{Bool, true, false, ◌&&◌, ◌||◌}
use Prim.Native.Nat.{ℕ, ◌+◌, ◌*◌, ◌/◌, ◌%◌, ◌<◌}
use native.Mathlib.Nat.{mod-lt}
use native.Mathlib.Omega.{arith}
use lib.Bits.{bit_and, or_zero_r, and_mask}
use borrow.Author.Tests.{eqb-false}
use Rattle.steps.specs.Bits.{bit, digit, merge}
use Rattle.qspi.specs.model.Parts.{with_registers}
use Rattle.qspi.specs.model.Registers.{spcr1_word, with_spcr1, switched, write_spcr1}
use Rattle.qspi.specs.model.Spsr.{spsr_byte, fallen, falling}
use Rattle.qspi.specs.declared.Qspi.{Qspi}
use Rattle.qspi.specs.declared.spsr.Spsr.{Spsr}
use Rattle.qsm.specs.model.Map.{decode}
use Rattle.qsm.specs.model.Queue.{peek_queue, put_queue, queue_unmodelled}
use Rattle.qsm.specs.model.Word.{peek, put, unmodelled}
use Rattle.qsm.specs.claims.Registers.{row}
use Rattle.qsm.specs.declared.state.Module.{Module}
use Rattle.qsm.proofs.Masks.{mask_BFFF, mask_EF0F}
use Rattle.qsm.proofs.Words.{byte_read}
use Rattle.claims_registers.specs.Formed.{Formed}
use Rattle.claims_registers.specs.Bytes.{ByteWritten, HaltByte}
use Rattle.claims_registers.proofs.Numbers.{up, down}
use Rattle.claims_registers.proofs.Masked.{merged_upper, merged_lower, womq, womq_lower, byte_upper, byte_lower, spcr2_is, spcr2_lower, spcr2_upper, spcr2_byte, spcr2_mask_upper, spcr2_mask_lower, spcr2_old_lower, spcr2_old_upper, loopq, shown_upper}
use Rattle.claims_registers.proofs.Lanes.{Put, byte_put, byte_after}

-- SPE before and after: SPCR1 is as written.
switched_word : (a b : Bool) (q : Qspi) → spcr1_word (switched a b q) ≡ spcr1_word q
switched_word true true q = refl
switched_word true false q = refl
switched_word false true q = refl
switched_word false false q = refl

spcr1_is : (q : Qspi) (v : ℕ) (u l : Bool) → spcr1_word (write_spcr1 q v u l) ≡ merge q.registers.spcr1 v u l
unfolding write_spcr1
spcr1_is q v u l =
    switched_word (bit 15 q.registers.spcr1) (bit 15 (merge q.registers.spcr1 v u l))
    (with_registers q (with_spcr1 q.registers (merge q.registers.spcr1 v u l)))

module _ (m : Module) (f : Formed m) (v : ℕ) where
  pub spcr0 : ByteWritten m v (row 0x18 0x0104 0xBFFF 0 0)
  unfolding decode peek put unmodelled peek_queue put_queue queue_unmodelled
  spcr0 =
      record {
        upper =
            λ r.
            let it : Put m 0x18 v = byte_put m 0x18 v refl r in
            record {
              written =
                  byte_after m 0x18 v 0x18 refl refl r
                  ∙ rw (up v it.small, or_zero_r (bit_and (v * 256) 0xBFFF), mask_BFFF (v * 256))
                  (merged_upper v (m.qspi.registers.spcr0 % 256) (mod-lt m.qspi.registers.spcr0 (omega arith)) it.small
                  ∙ sym (womq v it.small (eqb-false (v * 257 / 16384 % 2) 1 (or_left (bit 14 (v * 257)) _ it.modelled))));
              other =
                  byte_after m 0x18 v 0x19 refl refl r
                  ∙ rw (up v it.small) (merged_lower v (m.qspi.registers.spcr0 % 256) (mod-lt m.qspi.registers.spcr0 (omega arith)))
                  ∙ sym (byte_read m 0x19 refl);
            };
        lower =
            λ r.
            let less : v < 256 = (byte_put m 0x19 v refl r).small in
            record {
              written =
                  byte_after m 0x19 v 0x19 refl refl r
                  ∙ rw (down v less, or_zero_r (bit_and v 0xBFFF), mask_BFFF v)
                  (merged_lower (m.qspi.registers.spcr0 / 256 % 256) v less ∙ sym (womq_lower v less));
              other =
                  byte_after m 0x19 v 0x18 refl refl r
                  ∙ rw (down v less)
                  (merged_upper (m.qspi.registers.spcr0 / 256 % 256) v less (mod-lt (m.qspi.registers.spcr0 / 256) (omega arith)))
                  ∙ sym (byte_read m 0x18 refl);
            };
      }
    where
      or_left : (a b : Bool) → a || b ≡ false → a ≡ false
      or_left false b h = refl
      or_left true b h = h

  pub spcr1 : ByteWritten m v (row 0x1A 0x0404 0xFFFF 0 0)
  unfolding decode peek put peek_queue put_queue
  spcr1 =
      record {
        upper =
            λ r.
            let less : v < 256 = (byte_put m 0x1A v refl r).small in
            record {
              written =
                  byte_after m 0x1A v 0x1A refl refl r
                  ∙ rw (spcr1_is m.qspi (v * 257) true false, up v less, or_zero_r (bit_and (v * 256) 0xFFFF), and_mask (v * 256) 16)
                  (merged_upper v (m.qspi.registers.spcr1 % 256) (mod-lt m.qspi.registers.spcr1 (omega arith)) less ∙ sym (byte_upper v less));
              other =
                  byte_after m 0x1A v 0x1B refl refl r
                  ∙ rw (spcr1_is m.qspi (v * 257) true false, up v less)
                  (merged_lower v (m.qspi.registers.spcr1 % 256) (mod-lt m.qspi.registers.spcr1 (omega arith)))
                  ∙ sym (byte_read m 0x1B refl);
            };
        lower =
            λ r.
            let less : v < 256 = (byte_put m 0x1B v refl r).small in
            record {
              written =
                  byte_after m 0x1B v 0x1B refl refl r
                  ∙ rw (spcr1_is m.qspi (v * 257) false true, down v less, or_zero_r (bit_and v 0xFFFF), and_mask v 16)
                  (merged_lower (m.qspi.registers.spcr1 / 256 % 256) v less ∙ sym (byte_lower v less));
              other =
                  byte_after m 0x1B v 0x1A refl refl r
                  ∙ rw (spcr1_is m.qspi (v * 257) false true, down v less)
                  (merged_upper (m.qspi.registers.spcr1 / 256 % 256) v less (mod-lt (m.qspi.registers.spcr1 / 256) (omega arith)))
                  ∙ sym (byte_read m 0x1A refl);
            };
      }

  pub spcr2_back : ByteWritten m v (row 0x1C 0x0000 0xEF0F 0 0)
  unfolding decode peek put peek_queue put_queue
  spcr2_back =
      let w : ℕ = m.qspi.registers.spcr2 in
      let low : w % 256 < 256 = mod-lt w (omega arith) in
      let high : w / 256 % 256 < 256 = mod-lt (w / 256) (omega arith) in
      record {
        upper =
            λ r.
            let less : v < 256 = (byte_put m 0x1C v refl r).small in
            record {
              written =
                  byte_after m 0x1C v 0x1C refl refl r
                  ∙ rw (up v less, or_zero_r (bit_and (v * 256) 0xEF0F), mask_EF0F (v * 256), spcr2_is v (w % 256) low)
                  (ap (λ x. x % 256) (spcr2_upper (v / 32) (v % 16) (w % 256 % 16) (mod-lt (w % 256) (omega arith)))
                  ∙ spcr2_byte v less ∙ sym (spcr2_mask_upper v less));
              other =
                  byte_after m 0x1C v 0x1D refl refl r
                  ∙ rw (up v less, spcr2_is v (w % 256) low)
                  (spcr2_lower (v / 32) (v % 16) (w % 256 % 16) (mod-lt (w % 256) (omega arith)) ∙ spcr2_old_lower w f.SPCR2)
                  ∙ sym (byte_read m 0x1D refl);
            };
        lower =
            λ r.
            let less : v < 256 = (byte_put m 0x1D v refl r).small in
            record {
              written =
                  byte_after m 0x1D v 0x1D refl refl r
                  ∙ rw (down v less, or_zero_r (bit_and v 0xEF0F), mask_EF0F v, spcr2_is (w / 256 % 256) v less)
                  (spcr2_lower (w / 256 % 256 / 32) (w / 256 % 256 % 16) (v % 16) (mod-lt v (omega arith)) ∙ sym (spcr2_mask_lower v less));
              other =
                  byte_after m 0x1D v 0x1C refl refl r
                  ∙ rw (down v less, spcr2_is (w / 256 % 256) v less)
                  (ap (λ x. x % 256) (spcr2_upper (w / 256 % 256 / 32) (w / 256 % 256 % 16) (v % 16) (mod-lt v (omega arith)))
                  ∙ spcr2_byte (w / 256 % 256) high ∙ spcr2_old_upper w f.SPCR2)
                  ∙ sym (byte_read m 0x1C refl);
            };
      }

-- SPSR is a byte, and a write of SPCR3 leaves it.
digit_small : (b : Bool) → digit b < 2
digit_small true = omega arith
digit_small false = omega arith

spsr_byte_holds : (s : Spsr) → spsr_byte s < 256
spsr_byte_holds s = below (digit s.flags.spif) (digit s.flags.modf) (digit s.flags.halta) s.cptqp (digit_small s.flags.spif) (digit_small s.flags.modf) (digit_small s.flags.halta)
  where
    below : (a b c d : ℕ) → a < 2 → b < 2 → c < 2 → a * 128 + b * 64 + c * 32 + d % 16 < 256
    below a b c d h k l = omega arith

and_true : (b : Bool) → b && true ≡ b
and_true true = refl
and_true false = refl

spsr_same : (s : Spsr) (v : ℕ) → spsr_byte (fallen s (falling s v false)) ≡ spsr_byte s
spsr_same s v = rw (and_true s.flags.spif, and_true s.flags.modf, and_true s.flags.halta)

upper_of : (x y : ℕ) → y < 256 → (x * 256 + y) / 256 % 256 ≡ x % 256
upper_of x y h = let top : (x * 256 + y) / 256 ≡ x = omega arith in rw top

pub halt_byte : (m : Module) (v : ℕ) → HaltByte m v
unfolding decode peek put unmodelled peek_queue put_queue queue_unmodelled
halt_byte m v =
    record {
      written =
          λ r.
          let it : Put m 0x1E v = byte_put m 0x1E v refl r in
          let low : v * 257 / 256 % 256 % 8 < 256 = omega arith in
          byte_after m 0x1E v 0x1E refl refl r
          ∙ shown_upper (v * 257 / 256 % 256 % 8) (spsr_byte (fallen m.qspi.spsr (falling m.qspi.spsr (v * 257) false))) low
          (spsr_byte_holds (fallen m.qspi.spsr (falling m.qspi.spsr (v * 257) false)))
          ∙ ap (λ x. x % 8) (up v it.small) ∙ loopq v it.small (eqb-false (v * 257 / 1024 % 2) 1 it.modelled);
      SPSR =
          λ r.
          byte_after m 0x1E v 0x1F refl refl r
          ∙ merged_lower _ _ (spsr_byte_holds (fallen m.qspi.spsr (falling m.qspi.spsr (v * 257) false)))
          ∙ spsr_same m.qspi.spsr (v * 257)
          ∙ sym (byte_read m 0x1F refl ∙ merged_lower m.qspi.registers.spcr3 _ (spsr_byte_holds m.qspi.spsr));
      SPCR3 =
          λ r.
          byte_after m 0x1F v 0x1E refl refl r
          ∙ upper_of m.qspi.registers.spcr3 _ (spsr_byte_holds (fallen m.qspi.spsr (falling m.qspi.spsr (v * 257) true)))
          ∙ sym (byte_read m 0x1E refl ∙ upper_of m.qspi.registers.spcr3 _ (spsr_byte_holds m.qspi.spsr));
    }
