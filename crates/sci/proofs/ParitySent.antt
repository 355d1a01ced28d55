-- The ones of a word as sent: counted over its bits, they come to what parity asks.
-- Assumes nothing.
use mathlib.Core.Path.{◌≡◌, refl, ap, ap₂, sym, ◌∙◌}
use mathlib.Core.Bool.{Bool, true, false, cond, not, beq, true≢false}
use mathlib.Core.List.{List, ◌∷◌}
use Prim.Native.Nat.{ℕ, zero, suc, ◌+◌, ◌-◌, ◌/◌, ◌%◌, ◌^◌, ◌<◌}
use native.Mathlib.Omega.{arith}
use native.Mathlib.Nat.{mod-mod, add-mod_right}
use lib.Count.{ones, ones_step}
use lib.Dec.{eqb}
use Rattle.steps.specs.Bits.{digit}
use Rattle.sci.specs.model.Bits.{parity_bit}
use Rattle.sci.specs.model.Transmitter.{data_sent}
use Rattle.sci.specs.claims.Levels.{low_bits}
use Rattle.sci.specs.claims.TransmitterClauses.{ones_among, ParitySent}
use Rattle.sci.proofs.Sending.{digit_eqb, mod_suc, parity_right, sent_fits}

among_low : (n w : ℕ) → ones_among (low_bits n w) ≡ ones (w % 2 ^ n)
unfolding low_bits ones_among ones
among_low zero w =
    let e : w % 1 ≡ 0 = omega arith in
    rw e
among_low (suc n) w =
    let step : ones (w % 2 ^ suc n) ≡ w % 2 ^ suc n % 2 + ones (w % 2 ^ suc n / 2) = ones_step (w % 2 ^ suc n) in
    let bit : w % 2 ^ suc n % 2 ≡ w % 2 = omega (arith, mod_suc n w) in
    let rest : w % 2 ^ suc n / 2 ≡ w / 2 % 2 ^ n = omega (arith, mod_suc n w) in
    ap₂ (λ (a b : ℕ). a + b) (digit_eqb (w % 2) (omega arith)) (among_low n (w / 2))
    ∙ ap₂ (λ (a b : ℕ). a + ones b) (sym bit) (sym rest) ∙ sym step

low_same : (n a b : ℕ) → a % 2 ^ n ≡ b % 2 ^ n → low_bits n a ≡ low_bits n b
unfolding low_bits
low_same zero a b e = refl
low_same (suc n) a b e =
    let bit : a % 2 ≡ b % 2 = omega (arith, mod_suc n a, mod_suc n b) in
    let rest : a / 2 % 2 ^ n ≡ b / 2 % 2 ^ n = omega (arith, mod_suc n a, mod_suc n b) in
    ap₂ (λ (d : ℕ) (bits : List Bool). eqb d 1 ∷ bits) bit (low_same n (a / 2) (b / 2) rest)

-- Right parity, as a number of ones.
right_is : (pt : Bool) (d : ℕ) → d < 2 → not (beq (eqb d 1) pt) ≡ false → d ≡ digit pt
right_is true zero h e = absurd (true≢false e)
right_is true (suc zero) h e = refl
right_is false zero h e = refl
right_is false (suc zero) h e = absurd (true≢false e)
right_is pt (suc (suc d)) h e = absurd (omega arith)

pub parity_sent : (n w : ℕ) (pt : Bool) → ParitySent n w pt
parity_sent n w pt =
    record {
      ones =
          ap (λ (k : ℕ). k % 2) (among_low (suc n) (data_sent (suc n) true pt w))
          ∙ ap (λ (k : ℕ). ones k % 2) (sent_fits (suc n) w pt (omega arith))
          ∙ right_is pt (ones (data_sent (suc n) true pt w) % 2) (omega arith) (parity_right (suc n) w pt);
      data_bits_holds =
          let less : suc n - 1 ≡ n = omega arith in
          low_same n (data_sent (suc n) true pt w) w (rw less (go (parity_bit pt (w % 2 ^ n))));
    }
  where
    go : (b : Bool) → cond b (w % 2 ^ n + 2 ^ n) (w % 2 ^ n) % 2 ^ n ≡ w % 2 ^ n
    go true = add-mod_right (w % 2 ^ n) (2 ^ n) ∙ mod-mod w (2 ^ n)
    go false = mod-mod w (2 ^ n)
