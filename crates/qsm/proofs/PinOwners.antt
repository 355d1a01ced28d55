-- A pin's level by its owner, and which pin is in which set. Assumes nothing.
use mathlib.Core.Path.{◌≡◌, refl}
use mathlib.Core.Bool.{Bool, true, false, cond, not, ◌&&◌, ◌||◌}
use Prim.Native.Nat.{ℕ, zero, suc, ◌+◌, ◌*◌, ◌/◌, ◌%◌, ◌<◌}
use native.Mathlib.Omega.{arith}
use Rattle.steps.specs.Bits.{bit}
use Rattle.sci.proofs.Membership.{bit_of_or, bit_of_and, bit_less}
use Rattle.qsm.specs.model.Pins.{mask, owned, own_levels, levels, portqs_read}
use Rattle.qsm.specs.declared.pins.Outputs.{Outputs}
use Rattle.qsm.proofs.Booleans.{and_true, constants, same_digit}

chosen : (l m i : Bool) → (l && m) || (i && not m) ≡ cond m l i
chosen l true i = simp constants
chosen true false i = and_true i
chosen false false i = and_true i

module _ (o : Outputs) (k : ℕ) where
  pub port_level : bit k (owned o) ≡ false → bit k (mask o) ≡ true → bit k (levels o) ≡ bit k o.portqs
  unfolding levels
  port_level h g = simp (bit_of_or k, bit_of_and k, bit_less k, h, g, constants)

  pub own_level : bit k (owned o) ≡ true → bit k (mask o) ≡ true → bit k (levels o) ≡ bit k (own_levels o)
  unfolding levels
  own_level h g = simp (bit_of_or k, bit_of_and k, bit_less k, h, g, constants)

  pub undriven_level : bit k (mask o) ≡ false → bit k (levels o) ≡ false
  unfolding levels
  undriven_level h = simp (bit_of_and k, h, constants)

  pub read_level : (inputs : ℕ) → bit k (portqs_read o inputs) ≡ cond (bit k (mask o)) (bit k (levels o)) (bit k inputs)
  unfolding portqs_read
  read_level inputs = simp (bit_of_or k, bit_of_and k, bit_less k) (chosen (bit k (levels o)) (bit k (mask o)) (bit k inputs))

-- ---- which pins are which

each_pin_holds : (P : ℕ → Type 0) → P 0 → P 1 → P 2 → P 3 → P 4 → P 5 → P 6 → P 7 → (k : ℕ) → k < 8 → P k
each_pin_holds P a b c d e f g i zero h = a
each_pin_holds P a b c d e f g i (suc zero) h = b
each_pin_holds P a b c d e f g i (suc (suc zero)) h = c
each_pin_holds P a b c d e f g i (suc (suc (suc zero))) h = d
each_pin_holds P a b c d e f g i (suc (suc (suc (suc zero)))) h = e
each_pin_holds P a b c d e f g i (suc (suc (suc (suc (suc zero))))) h = f
each_pin_holds P a b c d e f g i (suc (suc (suc (suc (suc (suc zero)))))) h = g
each_pin_holds P a b c d e f g i (suc (suc (suc (suc (suc (suc (suc zero))))))) h = i
each_pin_holds P a b c d e f g i (suc (suc (suc (suc (suc (suc (suc (suc k)))))))) h = absurd (omega arith)

pub below_8 : (k : ℕ) → k < 8 → bit k 255 ≡ true
below_8 = each_pin_holds (λ k. bit k 255 ≡ true) refl refl refl refl refl refl refl refl

pub below_7 : (k : ℕ) → k < 7 → bit k 128 ≡ false
below_7 k less =
    each_pin_holds (λ k. k < 7 → bit k 128 ≡ false) (λ h. refl) (λ h. refl) (λ h. refl) (λ h. refl) (λ h. refl) (λ h. refl)
    (λ h. refl) (λ h. absurd (omega arith)) k (omega arith) less

pub not_sck : (k : ℕ) → k < 7 → (k ≡ 2 → ⊥) → bit k 4 ≡ false
not_sck k less =
    each_pin_holds (λ k. (k ≡ 2 → ⊥) → bit k 4 ≡ false) (λ n. refl) (λ n. refl) (λ n. absurd (n refl)) (λ n. refl) (λ n. refl)
    (λ n. refl) (λ n. refl) (λ n. refl) k (omega arith)

-- PCS i is pin 3 + i: assigned by PQSPAR 6:3, and none of the others.
pub record Select (i : ℕ) : Type 0 where
  pub group : bit (3 + i) 0x7A ≡ true
  pub no_miso : bit (3 + i) 1 ≡ false
  pub no_mosi : bit (3 + i) 2 ≡ false
  pub no_sck : bit (3 + i) 4 ≡ false
  pub no_txd : bit (3 + i) 128 ≡ false
  pub value : (p : ℕ) → bit (3 + i) (p % 16 * 8) ≡ bit i p

pub select : (i : ℕ) → i < 4 → Select i
select zero h =
    record { group = refl; no_miso = refl; no_mosi = refl; no_sck = refl; no_txd = refl; value = λ p. same_digit (p % 16 * 8 / 8 % 2) (p / 1 % 2) (omega arith) }
select (suc zero) h =
    record { group = refl; no_miso = refl; no_mosi = refl; no_sck = refl; no_txd = refl; value = λ p. same_digit (p % 16 * 8 / 16 % 2) (p / 2 % 2) (omega arith) }
select (suc (suc zero)) h =
    record { group = refl; no_miso = refl; no_mosi = refl; no_sck = refl; no_txd = refl; value = λ p. same_digit (p % 16 * 8 / 32 % 2) (p / 4 % 2) (omega arith) }
select (suc (suc (suc zero))) h =
    record { group = refl; no_miso = refl; no_mosi = refl; no_sck = refl; no_txd = refl; value = λ p. same_digit (p % 16 * 8 / 64 % 2) (p / 8 % 2) (omega arith) }
select (suc (suc (suc (suc i)))) h = absurd (omega arith)
