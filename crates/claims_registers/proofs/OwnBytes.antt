-- Bytes of the module's own registers. Assumes nothing.
use mathlib.Core.Path.{refl, sym, ◌∙◌}
use Prim.Native.Nat.{ℕ, ◌+◌, ◌*◌, ◌/◌, ◌%◌, ◌<◌}
use native.Mathlib.Omega.{arith}
use lib.Bits.{bit_and, or_zero_r, or_shifted}
use Rattle.qsm.specs.model.Map.{decode}
use Rattle.qsm.specs.model.Own.{peek_own, put_own}
use Rattle.qsm.specs.model.Word.{peek, put}
use Rattle.qsm.specs.claims.Registers.{row}
use Rattle.qsm.specs.declared.state.Module.{Module}
use Rattle.qsm.proofs.Masks.{mask_008F, mask_3FFE, mask_7BFF}
use Rattle.qsm.proofs.Words.{byte_read}
use Rattle.claims_registers.specs.Formed.{Formed}
use Rattle.claims_registers.specs.Bytes.{ByteWritten, Byte14}
use Rattle.claims_registers.proofs.Numbers.{up, down, qsmcr_upper, qsmcr_upper_other, qsmcr_lower, qsmcr_lower_other, interrupts_upper, interrupts_lower, interrupts_upper_other, interrupts_lower_other, directions_at}
use Rattle.claims_registers.proofs.Masked.{vector_upper, vector_lower, directions_upper, directions_lower, two_fields, merged_upper, merged_lower}
use Rattle.claims_registers.proofs.Lanes.{byte_put, byte_after}

module _ (m : Module) (f : Formed m) (v : ℕ) where
  pub qsmcr : ByteWritten m v (row 0x00 0x0080 0x008F 0 0)
  unfolding decode peek put peek_own put_own
  qsmcr =
      record {
        upper =
            λ r.
            let less : v < 256 = (byte_put m 0x00 v refl r).small in
            record {
              written =
                  byte_after m 0x00 v 0x00 refl refl r
                  ∙ rw (up v less, or_zero_r (bit_and (v * 256) 0x008F), mask_008F (v * 256))
                  (qsmcr_upper (v * 256 + m.qsmcr % 256) (v * 256));
              other =
                  byte_after m 0x00 v 0x01 refl refl r
                  ∙ rw (up v less) (qsmcr_upper_other m.qsmcr v f.QSMCR) ∙ sym (byte_read m 0x01 refl);
            };
        lower =
            λ r.
            let less : v < 256 = (byte_put m 0x01 v refl r).small in
            record {
              written =
                  byte_after m 0x01 v 0x01 refl refl r
                  ∙ rw (down v less, or_zero_r (bit_and v 0x008F), mask_008F v) (qsmcr_lower m.qsmcr v less);
              other =
                  byte_after m 0x01 v 0x00 refl refl r
                  ∙ rw (down v less) (qsmcr_lower_other m.qsmcr (m.qsmcr / 256 % 256 * 256 + v) f.QSMCR)
                  ∙ sym (byte_read m 0x00 refl);
            };
      }

  pub interrupts : ByteWritten m v (row 0x04 0x000F 0x3FFE 1 0)
  unfolding decode peek put peek_own put_own
  interrupts =
      record {
        upper =
            λ r.
            let less : v < 256 = (byte_put m 0x04 v refl r).small in
            record {
              written =
                  byte_after m 0x04 v 0x04 refl refl r
                  ∙ rw (up v less, merged_lower m.qilr m.qivr f.QIVR, mask_3FFE (v * 256), or_shifted (v * 256 / 2 % 8192) 1 1 (omega arith))
                  (interrupts_upper m.qivr v f.QIVR less ∙ sym (vector_upper v));
              other =
                  byte_after m 0x04 v 0x05 refl refl r
                  ∙ rw (up v less, merged_lower m.qilr m.qivr f.QIVR) (interrupts_upper_other m.qivr v f.QIVR f.lowest)
                  ∙ sym (byte_read m 0x05 refl ∙ merged_lower m.qilr m.qivr f.QIVR);
            };
        lower =
            λ r.
            let less : v < 256 = (byte_put m 0x05 v refl r).small in
            let wide : m.qilr < 256 = omega (arith, f.QILR) in
            record {
              written =
                  byte_after m 0x05 v 0x05 refl refl r
                  ∙ rw (down v less, merged_upper m.qilr m.qivr f.QIVR wide, mask_3FFE v, or_shifted (v / 2 % 8192) 1 1 (omega arith))
                  (interrupts_lower m.qilr v less ∙ sym (vector_lower v less));
              other =
                  byte_after m 0x05 v 0x04 refl refl r
                  ∙ rw (down v less, merged_upper m.qilr m.qivr f.QIVR wide) (interrupts_lower_other m.qilr v f.QILR less)
                  ∙ sym (byte_read m 0x04 refl ∙ merged_upper m.qilr m.qivr f.QIVR wide);
            };
      }

  pub directions : ByteWritten m v (row 0x16 0x0000 0x7BFF 0 0)
  unfolding decode peek put peek_own put_own
  directions =
      let wide : m.pqspar < 256 = omega (arith, f.PQSPAR) in
      record {
        upper =
            λ r.
            let less : v < 256 = (byte_put m 0x16 v refl r).small in
            record {
              written =
                  byte_after m 0x16 v 0x16 refl refl r
                  ∙ rw (
                    up v less,
                    merged_lower m.pqspar m.ddrqs f.DDRQS,
                    or_zero_r (bit_and (v * 256) 0x7BFF),
                    mask_7BFF (v * 256),
                    directions_at v m.ddrqs f.DDRQS,
                    merged_lower v m.ddrqs f.DDRQS,
                  )
                  (two_fields (v / 8 % 16) (v % 4) m.ddrqs (omega arith) (omega arith) f.DDRQS ∙ sym (directions_upper v));
              other =
                  byte_after m 0x16 v 0x17 refl refl r
                  ∙ rw (up v less, merged_lower m.pqspar m.ddrqs f.DDRQS, merged_lower v m.ddrqs f.DDRQS)
                  (merged_lower _ m.ddrqs f.DDRQS)
                  ∙ sym (byte_read m 0x17 refl ∙ merged_lower m.pqspar m.ddrqs f.DDRQS);
            };
        lower =
            λ r.
            let less : v < 256 = (byte_put m 0x17 v refl r).small in
            record {
              written =
                  byte_after m 0x17 v 0x17 refl refl r
                  ∙ rw (down v less, or_zero_r (bit_and v 0x7BFF), mask_7BFF v, merged_lower ((m.pqspar * 256 + m.ddrqs) / 256 % 256) v less)
                  (merged_lower _ v less ∙ sym (directions_lower v less));
              other =
                  byte_after m 0x17 v 0x16 refl refl r
                  ∙ rw (down v less, merged_upper m.pqspar m.ddrqs f.DDRQS wide, directions_at m.pqspar v less, merged_lower m.pqspar v less)
                  (two_fields (m.pqspar / 8 % 16) (m.pqspar % 4) v (omega arith) (omega arith) less ∙ sym f.PQSPAR)
                  ∙ sym (byte_read m 0x16 refl ∙ merged_upper m.pqspar m.ddrqs f.DDRQS wide);
            };
      }

pub byte_14 : Byte14
unfolding decode put put_own
byte_14 m v r = (byte_put m 0x14 v refl r).state
