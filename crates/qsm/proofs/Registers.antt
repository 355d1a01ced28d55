-- The laws of the register map, together; and what the widths of a read have to do with each other. Assumes nothing.
use mathlib.Core.Path.{◌≡◌, refl, sym, ap, ◌∙◌}
use mathlib.Core.Bool.{true, false}
use Prim.Native.Nat.{ℕ, ◌+◌, ◌*◌, ◌/◌, ◌%◌, ◌<◌}
use native.Mathlib.Nat.{zero-add}
use native.Mathlib.Omega.{arith}
use lib.Dec.{eqb}
use borrow.Author.Tests.{eq-eqb, ne_eqb}
use Rattle.steps.specs.Iterate.{iterate}
use Rattle.qsm.specs.model.Map.{decode, mapped}
use Rattle.qsm.specs.model.Lanes as lanes
use Rattle.qsm.specs.model.Serial.{peek_serial}
use Rattle.qsm.specs.model.Word.{peek}
use Rattle.qsm.specs.model.Access.{fetch, fetched}
use Rattle.qsm.specs.model.Decision.{admitted, decide_read}
use Rattle.qsm.specs.model.Event.{answer_of, read_value, refused, reads, does, step}
use Rattle.qsm.specs.claims.Registers.{reading, Widths, NineBits, Registers}
use Rattle.qsm.specs.declared.state.Module.{Module}
use Rattle.qsm.proofs.Booleans.{on}
use Rattle.qsm.proofs.Ranges.{decode_word, by_words}
use Rattle.qsm.proofs.ResetReads.{even, reset_reads}
use Rattle.qsm.proofs.ReadsBack.{reads_back}
use Rattle.qsm.proofs.Accepts.{accepts}
use Rattle.qsm.proofs.RamReads.{ram_reads_back}
use Rattle.qsm.proofs.Elsewhere.{elsewhere}
use Rattle.qsm.proofs.Sizes.{sizes}
use Rattle.qsm.proofs.Words.{hole_read, in_map, word_read, byte_read}

odd : (k : ℕ) → eqb ((k * 2 + 1) % 2) 0 ≡ false
odd k = ne_eqb ((k * 2 + 1) % 2) 0 (λ e. omega arith)

same_place : (k : ℕ) → decode (k * 2 + 1) ≡ decode (k * 2)
same_place k =
    let halved : (k * 2 + 1) / 2 ≡ k * 2 / 2 = omega arith in
    by_words (k * 2 + 1) ∙ ap decode_word halved ∙ sym (by_words (k * 2))

long_read : (m : Module) (offset : ℕ) → eqb (offset % 2) 0 ≡ true → mapped (decode offset) ≡ true →
    mapped (decode (offset + 2)) ≡ true →
    (reading m 4 offset).value ≡ peek m (decode offset) % 65536 * 65536 + peek m (decode (offset + 2))
unfolding step answer_of does reads decide_read admitted lanes.in_map read_value fetched fetch iterate
long_read m offset e g h =
    let small : offset < 0x150 = in_map offset g in
    let after : (offset + 2) % 65536 ≡ offset + 2 = omega arith in
    rw (e, g, h, after, zero-add)

-- A long whose second word is outside the map is refused.
long_hole : (m : Module) (offset : ℕ) → eqb (offset % 2) 0 ≡ true → mapped (decode offset) ≡ true →
    mapped (decode (offset + 2)) ≡ false → (reading m 4 offset).refusal ≡ 2
unfolding step answer_of does reads refused decide_read admitted lanes.in_map
long_hole m offset e g h = rw (e, g, h)

nine_bits : NineBits
unfolding decode peek peek_serial
nine_bits m = word_read m 0x0E refl refl

module _ (m : Module) (k : ℕ) where
  upper : (reading m 1 (k * 2)).value ≡ (reading m 2 (k * 2)).value / 256 % 256
  upper =
      on (mapped (decode (k * 2)))
      (λ h. byte_read m (k * 2) h ∙ rw (even k, word_read m (k * 2) (even k) h))
      (λ h. rw ((hole_read m 1 (k * 2) refl h).0, (hole_read m 2 (k * 2) (even k) h).0))

  lower : (reading m 1 (k * 2 + 1)).value ≡ (reading m 2 (k * 2)).value % 256
  lower =
      on (mapped (decode (k * 2)))
      (λ h. byte_read m (k * 2 + 1) (rw (same_place k) h) ∙ rw (odd k, same_place k, word_read m (k * 2) (even k) h))
      (λ h. rw ((hole_read m 1 (k * 2 + 1) refl (rw (same_place k) h)).0, (hole_read m 2 (k * 2) (even k) h).0))

  long : (reading m 4 (k * 2)).refusal ≡ 0 →
      (reading m 4 (k * 2)).value ≡ (reading m 2 (k * 2)).value % 65536 * 65536 + (reading m 2 (k * 2 + 2)).value
  long r =
      on (mapped (decode (k * 2)))
      (λ g.
      on (mapped (decode (k * 2 + 2)))
      (λ h.
      long_read m (k * 2) (even k) g h
      ∙ rw (word_read m (k * 2) (even k) g, word_read m (k * 2 + 2) (eq-eqb ((k * 2 + 2) % 2) 0 (omega arith)) h))
      (λ h. absurd (omega (arith, long_hole m (k * 2) (even k) g h))))
      (λ g. absurd (omega (arith, (hole_read m 4 (k * 2) (even k) g).1)))

  widths : Widths m k
  widths = record { upper = upper; lower = lower; long = long }

pub registers : Registers
registers =
    record {
      reset_reads = reset_reads;
      reads_back = reads_back;
      accepts = accepts;
      ram_reads_back = ram_reads_back;
      sizes = sizes;
      widths = widths;
      nine_bits = nine_bits;
      elsewhere = elsewhere;
    }
