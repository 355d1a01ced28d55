-- Bits shifted in, highest first, make the word. Assumes nothing.
use mathlib.Core.Path.{◌≡◌, sym, ap, ◌∙◌}
use Prim.Native.Nat.{ℕ, suc, ◌+◌, ◌-◌, ◌*◌, ◌/◌, ◌%◌, ◌^◌, ◌<◌}
use native.Mathlib.Nat.{mod-eq_of_lt, div-one, div-div-eq-div-mul, pow-suc, mul_assoc, mul_comm, mod-mod, div-eq_of_lt, add-mul-mod_self_left, div-add-mod}
use native.Mathlib.Omega.{arith}
use lib.Dec.{eqb}
use borrow.Author.Tests.{eqb-true, eqb-false}
use Rattle.steps.specs.Bits.{bit, digit}
use Rattle.qsm.proofs.Booleans.{on}

-- A shift may forget the bits past the register before it as well.
shift_forgets : (x b m : ℕ) → (x % m * 2 + b) % m ≡ (x * 2 + b) % m
shift_forgets x b m =
    let whole : m * (x / m) + x % m ≡ x = div-add-mod x m in
    let twice : m * (x / m * 2) ≡ m * (x / m) * 2 = sym (mul_assoc m (x / m) 2) in
    let sum : x * 2 + b ≡ x % m * 2 + b + m * (x / m * 2) = omega arith in
    sym (ap (λ (y : ℕ). y % m) sum ∙ add-mul-mod_self_left (x % m * 2 + b) m (x / m * 2))

-- The last bit of a number as a digit.
last_bit : (y : ℕ) → digit (eqb (y % 2) 1) ≡ y % 2
last_bit y =
    on (eqb (y % 2) 1) (λ e. rw e (sym (eqb-true (y % 2) 1 e)))
    (λ e. let other : y % 2 ≡ 1 → ⊥ = eqb-false (y % 2) 1 e in rw e (omega arith))

module _ (w n : ℕ) where
  -- The highest i of n bits.
  abbrev top : ℕ → ℕ
  top i = w / 2 ^ (n - i)

  one_more : (i : ℕ) → i < n → top i * 2 + digit (bit (n - 1 - i) w) ≡ top (suc i)
  one_more i less =
      let place : n - i ≡ suc (n - 1 - i) = omega arith in
      let here : n - 1 - i ≡ n - suc i = omega arith in
      let half : w / 2 ^ (n - i) ≡ w / 2 ^ (n - 1 - i) / 2 =
      ap (λ (k : ℕ). w / 2 ^ k) place ∙ ap (λ (k : ℕ). w / k) (pow-suc 2 (n - 1 - i)) ∙ sym (div-div-eq-div-mul w (2 ^ (n - 1 - i)) 2) in
      let low : digit (bit (n - 1 - i) w) ≡ w / 2 ^ (n - 1 - i) % 2 = last_bit (w / 2 ^ (n - 1 - i)) in
      let same : w / 2 ^ (n - 1 - i) ≡ w / 2 ^ (n - suc i) = ap (λ (k : ℕ). w / 2 ^ k) here in
      omega arith

  module _ (r : ℕ) where
    -- What a register of n bits holds after i of them.
    abbrev pub gathered : ℕ → ℕ
    gathered i = (r * 2 ^ i + w / 2 ^ (n - i)) % 2 ^ n

    pub gathers : (i : ℕ) → i < n → (gathered i * 2 + digit (bit (n - 1 - i) w)) % 2 ^ n ≡ gathered (suc i)
    gathers i less =
        let more : r * 2 ^ suc i ≡ r * 2 ^ i * 2 = ap (λ (k : ℕ). r * k) (pow-suc 2 i) ∙ sym (mul_assoc r (2 ^ i) 2) in
        let sum : (r * 2 ^ i + top i) * 2 + digit (bit (n - 1 - i) w) ≡ r * 2 ^ suc i + top (suc i) = omega (arith, one_more i less) in
        shift_forgets (r * 2 ^ i + top i) (digit (bit (n - 1 - i) w)) (2 ^ n) ∙ ap (λ (k : ℕ). k % 2 ^ n) sum

    pub gathered_all : w < 2 ^ n → gathered n ≡ w
    gathered_all small =
        let none : n - n ≡ 0 = omega arith in
        let whole : w / 2 ^ (n - n) ≡ w = ap (λ (k : ℕ). w / 2 ^ k) none ∙ div-one w in
        let sum : r * 2 ^ n + w / 2 ^ (n - n) ≡ w + 2 ^ n * r = omega (arith, mul_comm r (2 ^ n)) in
        ap (λ (k : ℕ). k % 2 ^ n) sum ∙ add-mul-mod_self_left w (2 ^ n) r ∙ mod-eq_of_lt small

    pub gathered_none : w < 2 ^ n → r % 2 ^ n ≡ gathered 0
    gathered_none small =
        let all : n - 0 ≡ n = omega arith in
        let none : w / 2 ^ (n - 0) ≡ 0 = ap (λ (k : ℕ). w / 2 ^ k) all ∙ div-eq_of_lt small in
        let one : r * 2 ^ 0 ≡ r = omega arith in
        ap (λ (k : ℕ). k % 2 ^ n) (omega arith)

    -- A register that holds them, but for what it will forget.
    pub gathers_in : (i x : ℕ) → i < n → x % 2 ^ n ≡ gathered i → (x * 2 + digit (bit (n - 1 - i) w)) % 2 ^ n ≡ gathered (suc i)
    gathers_in i x less is =
        sym (shift_forgets x (digit (bit (n - 1 - i) w)) (2 ^ n))
        ∙ ap (λ (k : ℕ). (k * 2 + digit (bit (n - 1 - i) w)) % 2 ^ n) is
        ∙ gathers i less

    pub gathered_again : (i : ℕ) → gathered i % 2 ^ n ≡ gathered i
    gathered_again i = mod-mod (r * 2 ^ i + w / 2 ^ (n - i)) (2 ^ n)
