-- The laws of membership: bit k of a bitwise or, of an and, and of what is left of a number without its share of another.
use mathlib.Core.Path.{◌≡◌, refl, ap, sym, ◌∙◌}
use mathlib.Core.Bool.{Bool, true, false, not, ◌&&◌, ◌||◌, true≢false, false≢true}
use Prim.Native.Nat.{ℕ, zero, suc, ◌+◌, ◌-◌, ◌*◌, ◌/◌, ◌%◌, ◌^◌, ◌<◌, ◌≤◌}
use native.Mathlib.Omega.{arith}
use native.Mathlib.Nat.{add_comm, div-div-eq-div-mul, pow-succ', two-pow-succ}
use native.Mathlib.Numerals.{add-one}
use lib.Dec.{eqb}
use lib.Pow.{pow_pos}
use borrow.Author.Tests.{eq-eqb, ne_eqb, eqb-true}
use lib.Bits.{bit_and, bit_or, and_shr, and_mod, and_step, and_le_l, and_high, or_shr, or_mod}
use Rattle.steps.specs.Bits.{bit}
use Rattle.sci.specs.model.Flags.{flag, insert, contains, without, common}
use Rattle.sci.specs.claims.Members.{member, Membership}
use Rattle.sci.specs.declared.flags.Flags.{Flags}

or_digit : (d e : ℕ) → d < 2 → e < 2 → eqb (bit_or d e) 1 ≡ eqb d 1 || eqb e 1
or_digit zero zero g h = refl
or_digit zero (suc zero) g h = refl
or_digit zero (suc (suc e)) g h = absurd (omega arith)
or_digit (suc zero) zero g h = refl
or_digit (suc zero) (suc zero) g h = refl
or_digit (suc zero) (suc (suc e)) g h = absurd (omega arith)
or_digit (suc (suc d)) e g h = absurd (omega arith)

and_digit : (d e : ℕ) → d < 2 → e < 2 → eqb (bit_and d e) 1 ≡ eqb d 1 && eqb e 1
and_digit zero zero g h = refl
and_digit zero (suc zero) g h = refl
and_digit zero (suc (suc e)) g h = absurd (omega arith)
and_digit (suc zero) zero g h = refl
and_digit (suc zero) (suc zero) g h = refl
and_digit (suc zero) (suc (suc e)) g h = absurd (omega arith)
and_digit (suc (suc d)) e g h = absurd (omega arith)

less_digit : (d e : ℕ) → d < 2 → e < 2 → eqb (d - bit_and d e) 1 ≡ eqb d 1 && not (eqb e 1)
less_digit zero zero g h = refl
less_digit zero (suc zero) g h = refl
less_digit zero (suc (suc e)) g h = absurd (omega arith)
less_digit (suc zero) zero g h = refl
less_digit (suc zero) (suc zero) g h = refl
less_digit (suc zero) (suc (suc e)) g h = absurd (omega arith)
less_digit (suc (suc d)) e g h = absurd (omega arith)

pub bit_of_or : (k a b : ℕ) → bit k (bit_or a b) ≡ bit k a || bit k b
bit_of_or k a b =
    rw (or_shr a b k, or_mod (a / 2 ^ k) (b / 2 ^ k) 1)
    (or_digit (a / 2 ^ k % 2) (b / 2 ^ k % 2) (omega arith) (omega arith))

pub bit_of_and : (k a b : ℕ) → bit k (bit_and a b) ≡ bit k a && bit k b
bit_of_and k a b =
    rw (and_shr a b k, and_mod (a / 2 ^ k) (b / 2 ^ k) 1)
    (and_digit (a / 2 ^ k % 2) (b / 2 ^ k % 2) (omega arith) (omega arith))

-- A number without its share of another, halved, is its half without its share of the other's half.
less_half : (a b : ℕ) → (a - bit_and a b) / 2 ≡ a / 2 - bit_and (a / 2) (b / 2)
less_half a b = omega (arith, and_step a b, and_le_l (a / 2) (b / 2))

halves : (a k : ℕ) → a / 2 ^ suc k ≡ a / 2 / 2 ^ k
halves a k = rw (pow-succ' 2 k) (sym (div-div-eq-div-mul a 2 (2 ^ k)))

less_shr : (k a b : ℕ) → (a - bit_and a b) / 2 ^ k ≡ a / 2 ^ k - bit_and (a / 2 ^ k) (b / 2 ^ k)
less_shr zero a b =
    let p : a / 1 ≡ a = omega arith in
    let q : b / 1 ≡ b = omega arith in
    rw (p, q) (omega arith)
less_shr (suc k) a b =
    rw (halves (a - bit_and a b) k, less_half a b, less_shr k (a / 2) (b / 2), halves a k, halves b k) refl

less_mod : (a b : ℕ) → (a - bit_and a b) % 2 ≡ a % 2 - bit_and (a % 2) (b % 2)
less_mod a b =
    let m : bit_and a b % 2 ≡ bit_and (a % 2) (b % 2) = and_mod a b 1 in
    omega (arith, m, and_step a b, and_le_l a b, and_le_l (a / 2) (b / 2))

pub bit_less : (k a b : ℕ) → bit k (a - bit_and a b) ≡ bit k a && not (bit k b)
bit_less k a b =
    rw (less_shr k a b, less_mod (a / 2 ^ k) (b / 2 ^ k))
    (less_digit (a / 2 ^ k % 2) (b / 2 ^ k % 2) (omega arith) (omega arith))

one_bit : (d p : ℕ) → d < 2 → 0 < p → eqb (d * p) p ≡ eqb d 1
one_bit zero p h g = ne_eqb (0 * p) p (omega arith)
one_bit (suc zero) p h g = eq-eqb (1 * p) p (omega arith)
one_bit (suc (suc d)) p h g = absurd (omega arith)

one_flag : (k a : ℕ) → bit_and a (2 ^ k) ≡ a / 2 ^ k % 2 * 2 ^ k
one_flag k a =
    let mask : 2 ^ (1 + k) - 2 ^ k ≡ 2 ^ k = rw (add_comm 1 k, add-one k, two-pow-succ k) (omega arith) in
    rw mask at (and_high a 1 k)

bit_one : (k a : ℕ) → eqb (bit_and a (2 ^ k)) (2 ^ k) ≡ bit k a
bit_one k a = rw (one_flag k a) (one_bit (a / 2 ^ k % 2) (2 ^ k) (omega arith) (pow_pos k))

digit_eq : (d e : ℕ) → d < 2 → e < 2 → eqb d 1 ≡ eqb e 1 → d ≡ e
digit_eq zero zero g h p = refl
digit_eq zero (suc zero) g h p = absurd (false≢true p)
digit_eq zero (suc (suc e)) g h p = absurd (omega arith)
digit_eq (suc zero) zero g h p = absurd (true≢false p)
digit_eq (suc zero) (suc zero) g h p = refl
digit_eq (suc zero) (suc (suc e)) g h p = absurd (omega arith)
digit_eq (suc (suc d)) e g h p = absurd (omega arith)

-- Numbers of the same bits are equal: by their last bit and their halves, which have the same bits again.
bits_same : (n a b : ℕ) → a ≤ n → b ≤ n → ((k : ℕ) → bit k a ≡ bit k b) → a ≡ b
bits_same zero a b g h p = omega arith
bits_same (suc n) a b g h p =
    let z : a / 1 % 2 ≡ b / 1 % 2 = digit_eq (a / 1 % 2) (b / 1 % 2) (omega arith) (omega arith) (p 0) in
    let half : a / 2 ≡ b / 2 =
    bits_same n (a / 2) (b / 2) (omega arith) (omega arith) (λ k. rw (← halves a k, ← halves b k) (p (suc k))) in
    omega arith

and_absorbs : (a b : Bool) → (b ≡ true → a ≡ true) → a && b ≡ b
and_absorbs true b f = refl
and_absorbs false true f = absurd (false≢true (f refl))
and_absorbs false false f = refl

pub and_left : (a b : Bool) → a && b ≡ true → a ≡ true
and_left true b e = refl
and_left false b e = e

pub and_right : (a b : Bool) → a && b ≡ true → b ≡ true
and_right true b e = e
and_right false b e = absurd (false≢true e)

-- Each law, of sets.
module _ (k : ℕ) (a b : Flags) where
  pub member_insert : member k (insert a b) ≡ member k a || member k b
  unfolding member
  member_insert = bit_of_or k a.bits b.bits

  pub member_without : member k (without a b) ≡ member k a && not (member k b)
  unfolding member
  member_without = bit_less k a.bits b.bits

  pub member_common : member k (common a b) ≡ member k a && member k b
  unfolding member
  member_common = bit_of_and k a.bits b.bits

pub contains_flag : (k : ℕ) (a : Flags) → contains a (flag (2 ^ k)) ≡ member k a
unfolding member
contains_flag k a = bit_one k a.bits

pub same_members : (a b : Flags) → ((k : ℕ) → member k a ≡ member k b) → a ≡ b
unfolding member
same_members a b p =
    ap flag (bits_same (a.bits + b.bits) a.bits b.bits (omega arith) (omega arith) p)

subset_from : (a b : Flags) → contains a b ≡ true → (k : ℕ) → member k b ≡ true → member k a ≡ true
subset_from a b e k h =
    let same : common a b ≡ b = ap flag (eqb-true _ _ e) in
    and_left (member k a) (member k b) (sym (member_common k a b) ∙ ap (member k) same ∙ h)

subset_to : (a b : Flags) → ((k : ℕ) → member k b ≡ true → member k a ≡ true) → contains a b ≡ true
subset_to a b f =
    let same : common a b ≡ b =
    same_members (common a b) b (λ k. member_common k a b ∙ and_absorbs (member k a) (member k b) (f k)) in
    eq-eqb _ _ (ap (λ (x : Flags). x.bits) same)

pub membership : (a b : Flags) → Membership a b
membership a b =
    record {
      inserted = λ k. member_insert k a b;
      left_out = λ k. member_without k a b;
      shared = λ k. member_common k a b;
      contained = λ k. contains_flag k a;
      subset = (subset_from a b, subset_to a b);
      same = same_members a b;
    }
