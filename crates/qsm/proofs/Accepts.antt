-- At rest, what has no unmodelled bit is let through. Assumes nothing.
use mathlib.Core.Path.{◌≡◌, refl, sym, ap, ◌∙◌}
use mathlib.Core.Bool.{Bool, true, false, cond}
use Prim.Native.Nat.{ℕ, ◌+◌, ◌*◌, ◌/◌, ◌%◌, ◌^◌, ◌<◌}
use native.Mathlib.Omega.{arith}
use lib.Bits.{and_high}
use Rattle.steps.specs.Bits.{bit}
use Rattle.sci.specs.model.Control.{TE, RE, sccr1_bits}
use Rattle.sci.specs.model.Serial.{active, sccr0_guarded, sccr1_guarded}
use Rattle.qsm.specs.model.Map.{decode}
use Rattle.qsm.specs.model.Own.{own_unmodelled}
use Rattle.qsm.specs.model.Serial.{peek_serial, serial_unmodelled, serial_guarded}
use Rattle.qsm.specs.model.Queue.{peek_queue, queue_unmodelled, queue_guarded}
use Rattle.qsm.specs.model.Word.{peek, unmodelled, guarded}
use Rattle.qsm.specs.claims.Registers.{row, AtRest, Accepted, Accepts}
use Rattle.qsm.specs.declared.state.Module.{Module}
use Rattle.qsm.proofs.Booleans.{same_digit}
use Rattle.qsm.proofs.Masks.{mask_6001}
use Rattle.qsm.proofs.Words.{word_read, word_let}

-- SCCR1 as it is read has TE and RE.
controls : (asleep : Bool) (c : ℕ) →
    (bit 3 (cond asleep (sccr1_bits c + 2) (sccr1_bits c)) ≡ bit 3 c) × (bit 2 (cond asleep (sccr1_bits c + 2) (sccr1_bits c)) ≡ bit 2 c)
controls true c = (
  same_digit ((sccr1_bits c + 2) / 8 % 2) (c / 8 % 2) (omega arith),
  same_digit ((sccr1_bits c + 2) / 4 % 2) (c / 4 % 2) (omega arith),
)
controls false c = (
  same_digit (sccr1_bits c / 8 % 2) (c / 8 % 2) (omega arith),
  same_digit (sccr1_bits c / 4 % 2) (c / 4 % 2) (omega arith),
)

of_four : (x : ℕ) → x % 4 ≡ 0 → (x % 2 ≡ 0) × (x / 2 % 2 ≡ 0)
of_four x h = (omega arith, omega arith)

module _ (m : Module) (rest : AtRest m) where
  still : active m.sci ≡ false
  unfolding decode peek peek_serial
  still =
      let word = word_read m 0x0A refl refl in
      let te : TE m.sci.sccr1 ≡ false =
      sym (controls m.sci.receiver.asleep m.sci.sccr1).0 ∙ ap (bit 3) (sym word) ∙ rest.TE in
      let re : RE m.sci.sccr1 ≡ false =
      sym (controls m.sci.receiver.asleep m.sci.sccr1).1 ∙ ap (bit 2) (sym word) ∙ rest.RE in
      rw (te, re) rest.frame

  off : bit 15 m.qspi.registers.spcr1 ≡ false
  unfolding decode peek peek_queue
  off = ap (bit 15) (sym (word_read m 0x1A refl refl)) ∙ rest.SPE

  module _ (v : ℕ) (small : v < 65536) where
    qsmcr : Accepted m v (row 0x00 0x0080 0x008F 0 0)
    unfolding decode unmodelled guarded own_unmodelled
    qsmcr h b =
        let none : v / 8192 % 8 ≡ 0 = omega (arith, sym (and_high v 3 13) ∙ h) in
        word_let m 0x00 v small refl refl (rw none) refl

    interrupts : Accepted m v (row 0x04 0x000F 0x3FFE 1 0)
    unfolding decode unmodelled guarded own_unmodelled
    interrupts h b = word_let m 0x04 v small refl refl refl refl

    sccr0 : Accepted m v (row 0x08 0x0004 0x1FFF 0 0)
    unfolding decode unmodelled guarded serial_unmodelled serial_guarded sccr0_guarded
    sccr0 h b = word_let m 0x08 v small refl refl refl (rw still)

    sccr1 : Accepted m v (row 0x0A 0x0000 0x1FFE 0 0)
    unfolding decode unmodelled guarded serial_unmodelled serial_guarded sccr1_guarded
    sccr1 h b =
        let parts : v / 8192 % 4 * 8192 + v % 2 ≡ 0 = sym (mask_6001 v) ∙ h in
        let both : v / 8192 % 4 ≡ 0 = omega (arith, parts) in
        let woms : v / 2 ^ 13 % 2 ≡ 0 = (of_four (v / 8192) both).0 in
        let halved : v / 2 ^ 14 ≡ v / 8192 / 2 = omega arith in
        let loops : v / 2 ^ 14 % 2 ≡ 0 = rw halved (of_four (v / 8192) both).1 in
        let sbk : v / 2 ^ 0 % 2 ≡ 0 = omega (arith, parts) in
        word_let m 0x0A v small refl refl (rw (loops, woms, sbk)) (rw still)

    scsr : Accepted m v (row 0x0C 0x0180 0x0000 0 0x01FF)
    unfolding decode unmodelled guarded serial_unmodelled serial_guarded
    scsr h b = word_let m 0x0C v small refl refl refl refl

    scdr : Accepted m v (row 0x0E 0x0000 0x0000 0 0x01FF)
    unfolding decode unmodelled guarded serial_unmodelled serial_guarded
    scdr h b = word_let m 0x0E v small refl refl refl refl

    portqs : Accepted m v (row 0x14 0x0000 0x0000 0 0x00FF)
    unfolding decode unmodelled guarded own_unmodelled
    portqs h b = word_let m 0x14 v small refl refl refl refl

    directions : Accepted m v (row 0x16 0x0000 0x7BFF 0 0)
    unfolding decode unmodelled guarded own_unmodelled
    directions h b = word_let m 0x16 v small refl refl refl refl

    spcr0 : Accepted m v (row 0x18 0x0104 0xBFFF 0 0)
    unfolding decode unmodelled guarded queue_unmodelled queue_guarded
    spcr0 h b =
        let womq : v / 2 ^ 14 % 2 ≡ 0 = omega (arith, sym (and_high v 1 14) ∙ h) in
        word_let m 0x18 v small refl refl (rw womq b) (rw off)

    spcr1 : Accepted m v (row 0x1A 0x0404 0xFFFF 0 0)
    unfolding decode unmodelled guarded queue_unmodelled queue_guarded
    spcr1 h b =
        let spe : v / 2 ^ 15 % 2 ≡ 0 = omega (arith, sym (and_high v 1 15) ∙ h) in
        word_let m 0x1A v small refl refl (rw spe) (rw off)

    spcr2 : Accepted m v (row 0x1C 0x0000 0xEF0F 0 0)
    unfolding decode unmodelled guarded queue_unmodelled queue_guarded
    spcr2 h b = word_let m 0x1C v small refl refl refl refl

    spcr3 : Accepted m v (row 0x1E 0x0000 0x0300 0 0x00EF)
    unfolding decode unmodelled guarded queue_unmodelled queue_guarded
    spcr3 h b =
        let loopq : v / 2 ^ 10 % 2 ≡ 0 = omega (arith, sym (and_high v 1 10) ∙ h) in
        word_let m 0x1E v small refl refl (rw loopq) refl

pub accepts : Accepts
accepts m v rest small =
    (qsmcr m rest v small, (interrupts m rest v small, (sccr0 m rest v small, (sccr1 m rest v small, (scsr m rest v small, (scdr m rest v small, (portqs m rest v small, (directions m rest v small, (spcr0 m rest v small, (spcr1 m rest v small, (spcr2 m rest v small, (spcr3 m rest v small, tt))))))))))))
