-- Demand 2's sentence: RDRF alone among the six receive flags, and the data bits sent with their parity bit. Assumes nothing.
use mathlib.Core.Path.{◌≡◌, refl, ap, sym, ◌∙◌}
use mathlib.Core.Bool.{Bool, true, false, cond, not, ◌&&◌, beq, and-true, and-false}
use Prim.Native.Nat.{ℕ, suc, ◌+◌, ◌-◌, ◌*◌, ◌/◌, ◌%◌, ◌^◌, ◌≤◌, ◌<◌}
use native.Mathlib.Omega.{arith}
use native.Mathlib.Nat.{mul-le-mul_right, div-div-eq-div-mul}
use native.Mathlib.Decide.{dec_lt}
use borrow.Author.Tests.{eqb-true, eqb-false}
use lib.Bits.{bit_and, and_le_r}
use lib.Dec.{eqb}
use lib.Count.{ones}
use Rattle.steps.specs.Bits.{bit, digit}
use Rattle.sci.specs.model.Flags.{RDRF, flag}
use Rattle.sci.specs.claims.Members.{member}
use Rattle.sci.specs.model.Control.{bits_of, frame_samples}
use Rattle.sci.specs.model.Bits.{parity_bit}
use Rattle.sci.specs.claims.Levels.{end_sample}
use Rattle.sci.specs.claims.Line.{shown, no_flag}
use Rattle.sci.specs.model.Transmitter.{data_sent}
use Rattle.sci.specs.declared.flags.Flags.{Flags}
use Rattle.sci.specs.declared.status.Status.{Status}
use Rattle.sci.proofs.Flagged.{is_set}
use Rattle.sci.proofs.Membership.{bit_of_and}
use Rattle.sci.proofs.Sending.{sent_fits}

-- No receive flag is set: each of the six is clear.
pub clear_at : (s : Status) → shown s ≡ no_flag → (k : ℕ) → bit k 95 ≡ true → bit k 0 ≡ false → is_set k s ≡ false
unfolding member
clear_at s e k h o =
    sym (and-true (is_set k s)) ∙ ap (λ (b : Bool). is_set k s && b) (sym h) ∙ sym (bit_of_and k s.flags.bits 95)
    ∙ ap (λ (f : Flags). bit k f.bits) e ∙ o

-- RDRF alone, by the bits of the six.
off : (d : ℕ) → d < 2 → eqb d 1 ≡ false → d ≡ 0
off d l e = not_one d l (eqb-false d 1 e)
  where
    not_one : (d : ℕ) → d < 2 → (d ≡ 1 → ⊥) → d ≡ 0
    not_one d l f = by_order (dec_lt 0 d)
      where
        by_order : Dec (0 < d) → d ≡ 0
        by_order (yes u) = absurd (f (omega arith))
        by_order (no u) = omega arith

clear_bit : (k b : ℕ) → bit k b ≡ false → bit k (bit_and b 95) ≡ false
clear_bit k b e = bit_of_and k b 95 ∙ ap (λ (c : Bool). c && bit k 95) e

double : (x y z : ℕ) → y % 2 ≡ 0 → y / 2 ≡ z → y ≡ 2 * z
double x y z e f = omega arith

sixty_four : (x : ℕ) → x / 1 % 2 ≡ 0 → x / 2 % 2 ≡ 0 → x / 4 % 2 ≡ 0 → x / 8 % 2 ≡ 0 → x / 16 % 2 ≡ 0 → x / 32 % 2 ≡ 0 →
    x / 64 % 2 ≡ 1 → x ≤ 95 → x ≡ 64
sixty_four x e₀ e₁ e₂ e₃ e₄ e₅ e₆ l =
    let f₀ : x / 1 ≡ 2 * (x / 2) = double x (x / 1) (x / 2) e₀ (div-div-eq-div-mul x 1 2) in
    let f₁ : x / 2 ≡ 2 * (x / 4) = double x (x / 2) (x / 4) e₁ (div-div-eq-div-mul x 2 2) in
    let f₂ : x / 4 ≡ 2 * (x / 8) = double x (x / 4) (x / 8) e₂ (div-div-eq-div-mul x 4 2) in
    let f₃ : x / 8 ≡ 2 * (x / 16) = double x (x / 8) (x / 16) e₃ (div-div-eq-div-mul x 8 2) in
    let f₄ : x / 16 ≡ 2 * (x / 32) = double x (x / 16) (x / 32) e₄ (div-div-eq-div-mul x 16 2) in
    let f₅ : x / 32 ≡ 2 * (x / 64) = double x (x / 32) (x / 64) e₅ (div-div-eq-div-mul x 32 2) in
    sum x (x / 1) (x / 2) (x / 4) (x / 8) (x / 16) (x / 32) (x / 64) (omega arith) f₀ f₁ f₂ f₃ f₄ f₅ (one (x / 64) e₆ (omega (arith, l)))
  where
    one : (y : ℕ) → y % 2 ≡ 1 → y ≤ 1 → y ≡ 1
    one y e l = omega arith

    sum : (x a b c d e f g : ℕ) → x ≡ a → a ≡ 2 * b → b ≡ 2 * c → c ≡ 2 * d → d ≡ 2 * e → e ≡ 2 * f → f ≡ 2 * g → g ≡ 1 → x ≡ 64
    sum x a b c d e f g h₀ h₁ h₂ h₃ h₄ h₅ h₆ h₇ = omega arith

pub rdrf_alone : (s : Status) → is_set 0 s ≡ false → is_set 1 s ≡ false → is_set 2 s ≡ false → is_set 3 s ≡ false → is_set 4 s ≡ false →
    is_set 6 s ≡ true → shown s ≡ RDRF
unfolding member
rdrf_alone s pf fe nf or idle rdrf =
    let b : ℕ = s.flags.bits in
    let x : ℕ = bit_and b 95 in
    let e₀ : x / 1 % 2 ≡ 0 = off (x / 1 % 2) (omega arith) (clear_bit 0 b pf) in
    let e₁ : x / 2 % 2 ≡ 0 = off (x / 2 % 2) (omega arith) (clear_bit 1 b fe) in
    let e₂ : x / 4 % 2 ≡ 0 = off (x / 4 % 2) (omega arith) (clear_bit 2 b nf) in
    let e₃ : x / 8 % 2 ≡ 0 = off (x / 8 % 2) (omega arith) (clear_bit 3 b or) in
    let e₄ : x / 16 % 2 ≡ 0 = off (x / 16 % 2) (omega arith) (clear_bit 4 b idle) in
    let e₅ : x / 32 % 2 ≡ 0 = off (x / 32 % 2) (omega arith) (bit_of_and 5 b 95 ∙ and-false (bit 5 b)) in
    let e₆ : x / 64 % 2 ≡ 1 = eqb-true (x / 64 % 2) 1 (bit_of_and 6 b 95 ∙ ap (λ (c : Bool). c && true) rdrf) in
    ap flag (sixty_four x e₀ e₁ e₂ e₃ e₄ e₅ e₆ (and_le_r b 95))

-- The parity bit makes the ones even or odd in number.
parity_digit : (pt : Bool) (d : ℕ) → digit (parity_bit pt d) ≡ (ones d + digit pt) % 2
parity_digit pt d = go pt (eqb (ones d % 2) 1) refl
  where
    go : (pt odd : Bool) → eqb (ones d % 2) 1 ≡ odd → digit (not (beq odd pt)) ≡ (ones d + digit pt) % 2
    go true true e = omega (arith, eqb-true (ones d % 2) 1 e)
    go true false e = omega (arith, off (ones d % 2) (omega arith) e)
    go false true e = omega (arith, eqb-true (ones d % 2) 1 e)
    go false false e = omega (arith, off (ones d % 2) (omega arith) e)

with_digit : (b : Bool) (d k : ℕ) → cond b (d + k) d ≡ d + digit b * k
with_digit true d k = omega arith
with_digit false d k = omega arith

-- The data bits sent, by the bits of SCDR.
pub data_sent_holds : (nine pe pt : Bool) (w : ℕ) →
    data_sent (bits_of nine) pe pt w % 2 ^ bits_of nine
    ≡ cond pe (w % 2 ^ (bits_of nine - 1) + (ones (w % 2 ^ (bits_of nine - 1)) + digit pt) % 2 * 2 ^ (bits_of nine - 1)) (w % 2 ^ bits_of nine)
data_sent_holds nine false pt w = refl
data_sent_holds nine true pt w =
    let d : ℕ = w % 2 ^ (bits_of nine - 1) in
    sent_fits (bits_of nine) w pt (some nine) ∙ with_digit (parity_bit pt d) d (2 ^ (bits_of nine - 1))
    ∙ ap (λ (k : ℕ). d + k * 2 ^ (bits_of nine - 1)) (parity_digit pt d)
  where
    some : (nine : Bool) → 0 < bits_of nine
    some true = omega arith
    some false = omega arith

pub last_sample : (nine : Bool) → cond nine 170 154 ≡ suc (end_sample (bits_of nine))
last_sample true = refl
last_sample false = refl

pub few : (v T n P : ℕ) → T + v ≡ suc (end_sample n) * P → 0 < P → T < frame_samples n * P
few v T n P e l =
    let a : suc (suc (end_sample n)) ≤ frame_samples n = omega arith in
    omega (arith, e, mul-le-mul_right P a)
