-- Bytes of the serial half's registers. Assumes nothing.
use mathlib.Core.Path.{◌≡◌, refl, sym, ap, ◌∙◌}
use mathlib.Core.Bool.{Bool, true, false, cond}
use Prim.Native.Nat.{ℕ, ◌+◌, ◌*◌, ◌/◌, ◌%◌, ◌<◌}
use native.Mathlib.Nat.{mod-lt}
use native.Mathlib.Omega.{arith}
use lib.Dec.{eqb}
use lib.Bits.{bit_and, or_zero_r, and_mask}
use borrow.Author.Tests.{eqb-true, eqb-false}
use Rattle.steps.specs.Bits.{bit, merge}
use Rattle.sci.specs.model.Control.{RE, sccr1_bits}
use Rattle.sci.specs.model.Serial.{sccr1_word, sccr0_set, stopped, with_sccr1, wrote_sccr0, wrote_sccr1}
use Rattle.sci.specs.declared.serial.Sci.{Sci}
use Rattle.qsm.specs.model.Map.{decode}
use Rattle.qsm.specs.model.Serial.{peek_serial, put_serial}
use Rattle.qsm.specs.model.Word.{peek, put}
use Rattle.qsm.specs.claims.Registers.{row}
use Rattle.qsm.specs.declared.state.Module.{Module}
use Rattle.qsm.proofs.Masks.{mask_1FFE}
use Rattle.qsm.proofs.Words.{byte_read}
use Rattle.claims_registers.specs.Formed.{Formed}
use Rattle.claims_registers.specs.Bytes.{ByteWritten}
use Rattle.claims_registers.proofs.Numbers.{up, down, sccr0_upper, sccr0_upper_other, sccr0_lower, sccr0_lower_other, sccr1_upper, sccr1_upper_other, sccr1_lower, sccr1_lower_other}
use Rattle.claims_registers.proofs.Lanes.{byte_put, byte_after}

-- SCCR0: written anew, or as it was.
set_word : (b : Bool) (s : Sci) (n : ℕ) → eqb n s.sccr0 ≡ b → (sccr0_set b s n).sccr0 % 8192 ≡ n % 8192
set_word true s n e = ap (λ x. x % 8192) (sym (eqb-true n s.sccr0 e))
set_word false s n e = refl

sccr0_is : (s : Sci) (v : ℕ) (u l : Bool) → (wrote_sccr0 s v u l).sccr0 % 8192 ≡ merge s.sccr0 v u l % 8192
unfolding wrote_sccr0
sccr0_is s v u l =
    set_word (eqb (merge s.sccr0 v u l % 8192) s.sccr0) s (merge s.sccr0 v u l % 8192) refl ∙ again (merge s.sccr0 v u l)
  where
    again : (x : ℕ) → x % 8192 % 8192 ≡ x % 8192
    again x = omega arith

-- SCCR1: RE clear or set, it reads the same; and its bits 12:2 with RWU.
stopped_word : (b : Bool) (s : Sci) → sccr1_word (stopped b s) ≡ sccr1_word s
stopped_word true s = refl
stopped_word false s = refl

with_sleep_holds : (b : Bool) (v : ℕ) → bit 1 v ≡ b → cond b (sccr1_bits (sccr1_bits v) + 2) (sccr1_bits (sccr1_bits v)) ≡ v / 2 % 4096 * 2
with_sleep_holds true v e = let one : v / 2 % 2 ≡ 1 = eqb-true (v / 2 % 2) 1 e in omega arith
with_sleep_holds false v e = let zero : v / 2 % 2 ≡ 1 → ⊥ = eqb-false (v / 2 % 2) 1 e in omega (arith, zero)

sccr1_is : (s : Sci) (v : ℕ) (u l : Bool) → sccr1_word (wrote_sccr1 s v u l) ≡ merge (sccr1_word s) v u l / 2 % 4096 * 2
unfolding wrote_sccr1
sccr1_is s v u l =
    let new : ℕ = merge (sccr1_word s) v u l in
    stopped_word (RE new) (with_sccr1 s new) ∙ with_sleep_holds (bit 1 new) new refl

sccr1_form : (s : Sci) → (sccr1_word s % 2 ≡ 0) × (sccr1_word s < 8192)
sccr1_form s = (even s.receiver.asleep s.sccr1, small s.receiver.asleep s.sccr1)
  where
    even : (b : Bool) (x : ℕ) → cond b (x % 8192 / 4 * 4 + 2) (x % 8192 / 4 * 4) % 2 ≡ 0
    even true x = omega arith
    even false x = omega arith

    small : (b : Bool) (x : ℕ) → cond b (x % 8192 / 4 * 4 + 2) (x % 8192 / 4 * 4) < 8192
    small true x = omega arith
    small false x = omega arith

module _ (m : Module) (f : Formed m) (v : ℕ) where
  pub sccr0 : ByteWritten m v (row 0x08 0x0004 0x1FFF 0 0)
  unfolding decode peek put peek_serial put_serial
  sccr0 =
      record {
        upper =
            λ r.
            let less : v < 256 = (byte_put m 0x08 v refl r).small in
            record {
              written =
                  byte_after m 0x08 v 0x08 refl refl r
                  ∙ rw (sccr0_is m.sci (v * 257) true false, up v less, or_zero_r (bit_and (v * 256) 0x1FFF), and_mask (v * 256) 13)
                  (sccr0_upper v (m.sci.sccr0 % 256) (mod-lt m.sci.sccr0 (omega arith)));
              other =
                  byte_after m 0x08 v 0x09 refl refl r
                  ∙ rw (sccr0_is m.sci (v * 257) true false, up v less) (sccr0_upper_other v m.sci.sccr0)
                  ∙ sym (byte_read m 0x09 refl);
            };
        lower =
            λ r.
            let less : v < 256 = (byte_put m 0x09 v refl r).small in
            record {
              written =
                  byte_after m 0x09 v 0x09 refl refl r
                  ∙ rw (sccr0_is m.sci (v * 257) false true, down v less, or_zero_r (bit_and v 0x1FFF), and_mask v 13)
                  (sccr0_lower (m.sci.sccr0 / 256 % 256) v less);
              other =
                  byte_after m 0x09 v 0x08 refl refl r
                  ∙ rw (sccr0_is m.sci (v * 257) false true, down v less) (sccr0_lower_other m.sci.sccr0 v less)
                  ∙ sym (byte_read m 0x08 refl);
            };
      }

  pub sccr1 : ByteWritten m v (row 0x0A 0x0000 0x1FFE 0 0)
  unfolding decode peek put peek_serial put_serial
  sccr1 =
      record {
        upper =
            λ r.
            let less : v < 256 = (byte_put m 0x0A v refl r).small in
            record {
              written =
                  byte_after m 0x0A v 0x0A refl refl r
                  ∙ rw (sccr1_is m.sci (v * 257) true false, up v less, or_zero_r (bit_and (v * 256) 0x1FFE), mask_1FFE (v * 256))
                  (sccr1_upper v (sccr1_word m.sci % 256) (mod-lt (sccr1_word m.sci) (omega arith)));
              other =
                  byte_after m 0x0A v 0x0B refl refl r
                  ∙ rw (sccr1_is m.sci (v * 257) true false, up v less) (sccr1_upper_other v (sccr1_word m.sci) (sccr1_form m.sci).0)
                  ∙ sym (byte_read m 0x0B refl);
            };
        lower =
            λ r.
            let less : v < 256 = (byte_put m 0x0B v refl r).small in
            record {
              written =
                  byte_after m 0x0B v 0x0B refl refl r
                  ∙ rw (sccr1_is m.sci (v * 257) false true, down v less, or_zero_r (bit_and v 0x1FFE), mask_1FFE v)
                  (sccr1_lower (sccr1_word m.sci / 256 % 256) v less);
              other =
                  byte_after m 0x0B v 0x0A refl refl r
                  ∙ rw (sccr1_is m.sci (v * 257) false true, down v less) (sccr1_lower_other (sccr1_word m.sci) v (sccr1_form m.sci).1 less)
                  ∙ sym (byte_read m 0x0A refl);
            };
      }
