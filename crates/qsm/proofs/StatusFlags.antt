-- The flags and enables as a host reads them are those of the two halves. Assumes nothing.
use mathlib.Core.Path.{◌≡◌, sym, ap, ◌∙◌}
use mathlib.Core.Bool.{Bool, true, false, cond}
use Prim.Native.Nat.{ℕ, ◌+◌, ◌*◌, ◌/◌, ◌%◌, ◌^◌, ◌<◌}
use native.Mathlib.Omega.{arith}
use Rattle.steps.specs.Bits.{bit, digit}
use Rattle.sci.specs.model.Flags.{flag}
use Rattle.sci.specs.claims.Members.{member}
use Rattle.sci.specs.model.Status.{has}
use Rattle.sci.specs.declared.status.Status.{Status}
use Rattle.sci.proofs.Membership.{contains_flag}
use Rattle.qspi.specs.model.Registers.{spcr3_spsr}
use Rattle.qsm.specs.claims.StatusFlags.{read_at}
use Rattle.qsm.specs.declared.state.Module.{Module}
use Rattle.qsm.proofs.Booleans.{same_digit, low_bit, digit_one}
use Rattle.qsm.proofs.Reading.{scsr_read, sccr1_read, spcr3_read, spsr_read}

-- Bit k of SCSR, k below 9.
pub scsr_bit : (k : ℕ) (m : Module) → bit k 511 ≡ true →
    bit k (read_at m 2 0x0C) ≡ bit k m.sci.status.flags.bits
scsr_bit k m h = ap (bit k) (scsr_read m) ∙ low_bit k 9 m.sci.status.flags.bits h

has_bit : (k : ℕ) (s : Status) → has s (flag (2 ^ k)) ≡ bit k s.flags.bits
unfolding has member
has_bit k s = contains_flag k s.flags

-- A flag of SCSR, by its bit.
pub scsr_flag : (k : ℕ) (m : Module) → bit k 511 ≡ true →
    bit k (read_at m 2 0x0C) ≡ has m.sci.status (flag (2 ^ k))
scsr_flag k m h = scsr_bit k m h ∙ sym (has_bit k m.sci.status)

-- SCCR1 above RWU.
upper : (asleep : Bool) (v : ℕ) →
    cond asleep (v % 2 ^ 13 / 4 * 4 + 2) (v % 2 ^ 13 / 4 * 4) / 4 ≡ v % 2 ^ 13 / 4
upper true v = omega arith
upper false v = omega arith

sccr1_upper : (m : Module) → read_at m 2 0x0A / 4 ≡ m.sci.sccr1 % 2 ^ 13 / 4
sccr1_upper m = ap (λ (n : ℕ). n / 4) (sccr1_read m) ∙ upper m.sci.receiver.asleep m.sci.sccr1

control_bit : (w v : ℕ) → w / 4 ≡ v % 2 ^ 13 / 4 →
    (bit 7 w ≡ bit 7 v) × (bit 6 w ≡ bit 6 v) × (bit 5 w ≡ bit 5 v) × (bit 4 w ≡ bit 4 v) × (bit 3 w ≡ bit 3 v)
control_bit w v h = (
  same_digit (w / 128 % 2) (v / 128 % 2) (omega arith),
  same_digit (w / 64 % 2) (v / 64 % 2) (omega arith),
  same_digit (w / 32 % 2) (v / 32 % 2) (omega arith),
  same_digit (w / 16 % 2) (v / 16 % 2) (omega arith),
  same_digit (w / 8 % 2) (v / 8 % 2) (omega arith),
)

-- TIE, TCIE, RIE, ILIE, TE.
pub controls : (m : Module) →
    (bit 7 (read_at m 2 0x0A) ≡ bit 7 m.sci.sccr1) × (bit 6 (read_at m 2 0x0A) ≡ bit 6 m.sci.sccr1)
    × (bit 5 (read_at m 2 0x0A) ≡ bit 5 m.sci.sccr1) × (bit 4 (read_at m 2 0x0A) ≡ bit 4 m.sci.sccr1)
    × (bit 3 (read_at m 2 0x0A) ≡ bit 3 m.sci.sccr1)
controls m = control_bit (read_at m 2 0x0A) m.sci.sccr1 (sccr1_upper m)

-- The word at 1E from its digits.
word_digits : (s a b c d : ℕ) → a < 2 → b < 2 → c < 2 →
    ((s * 256 + (a * 128 + b * 64 + c * 32 + d % 16)) % 256 / 128 % 2 ≡ a)
    × ((s * 256 + (a * 128 + b * 64 + c * 32 + d % 16)) % 256 / 64 % 2 ≡ b)
    × ((s * 256 + (a * 128 + b * 64 + c * 32 + d % 16)) % 256 / 32 % 2 ≡ c)
    × ((s * 256 + (a * 128 + b * 64 + c * 32 + d % 16)) / 256 % 256 / 2 % 2 ≡ s / 2 % 2)
word_digits s a b c d g h i = (omega arith, omega arith, omega arith, omega arith)

digit_small : (b : Bool) → digit b < 2
digit_small true = omega arith
digit_small false = omega arith

module _ (m : Module) where
  of_word :
      (spcr3_spsr m.qspi % 256 / 128 % 2 ≡ digit m.qspi.spsr.flags.spif)
      × (spcr3_spsr m.qspi % 256 / 64 % 2 ≡ digit m.qspi.spsr.flags.modf)
      × (spcr3_spsr m.qspi % 256 / 32 % 2 ≡ digit m.qspi.spsr.flags.halta)
      × (spcr3_spsr m.qspi / 256 % 256 / 2 % 2 ≡ m.qspi.registers.spcr3 / 2 % 2)
  of_word =
      word_digits m.qspi.registers.spcr3 (digit m.qspi.spsr.flags.spif) (digit m.qspi.spsr.flags.modf) (digit m.qspi.spsr.flags.halta) m.qspi.spsr.cptqp
      (digit_small m.qspi.spsr.flags.spif) (digit_small m.qspi.spsr.flags.modf) (digit_small m.qspi.spsr.flags.halta)

  pub spif_read : bit 7 (read_at m 1 0x1F) ≡ m.qspi.spsr.flags.spif
  spif_read = ap (bit 7) (spsr_read m) ∙ same_digit _ _ of_word.0 ∙ digit_one m.qspi.spsr.flags.spif

  pub modf_read : bit 6 (read_at m 1 0x1F) ≡ m.qspi.spsr.flags.modf
  modf_read = ap (bit 6) (spsr_read m) ∙ same_digit _ _ of_word.1 ∙ digit_one m.qspi.spsr.flags.modf

  pub halta_read : bit 5 (read_at m 1 0x1F) ≡ m.qspi.spsr.flags.halta
  halta_read = ap (bit 5) (spsr_read m) ∙ same_digit _ _ of_word.2 ∙ digit_one m.qspi.spsr.flags.halta

  pub hmie_read : bit 1 (read_at m 1 0x1E) ≡ bit 1 m.qspi.registers.spcr3
  hmie_read = ap (bit 1) (spcr3_read m) ∙ same_digit _ _ of_word.3
