-- Facts of Bools and of single bits that the laws of pins, requests and seen flags share. Assumes nothing.
use mathlib.Core.Path.{◌≡◌, refl, sym, ap, ◌∙◌}
use mathlib.Core.Bool.{Bool, true, false, cond, not, ◌&&◌, ◌||◌, true≢false, false≢true}
use Prim.Native.Nat.{ℕ, ◌-◌, ◌%◌, ◌^◌}
use lib.Dec.{eqb}
use lib.Bits.{and_mask}
use Rattle.steps.specs.Bits.{bit, digit}
use Rattle.sci.proofs.Membership.{bit_of_and, bit_less}

pub and_true : (a : Bool) → a && true ≡ a
and_true true = refl
and_true false = refl

pub and_false : (a : Bool) → a && false ≡ false
and_false true = refl
and_false false = refl

pub or_true : (a : Bool) → a || true ≡ true
or_true true = refl
or_true false = refl

pub or_false : (a : Bool) → a || false ≡ a
or_false true = refl
or_false false = refl

pub if_false : (a : Bool) → cond a false false ≡ false
if_false true = refl
if_false false = refl

pub if_itself : (a : Bool) → cond a true false ≡ a
if_itself true = refl
if_itself false = refl

pub ruleset constants = (and_true, and_false, or_true, or_false, if_false, if_itself)

pub both : (a b : Bool) → a ≡ true → b ≡ true → a && b ≡ true
both true b g h = h
both false b g h = g

pub left_or : (a b : Bool) → a ≡ true → a || b ≡ true
left_or true b h = refl
left_or false b h = absurd (false≢true h)

pub right_or : (a b : Bool) → b ≡ true → a || b ≡ true
right_or true b h = refl
right_or false b h = h

pub same_or : {a b c d : Bool} → a ≡ c → b ≡ d → a || b ≡ c || d
same_or p q = rw (p, q)

-- One of two.
pub one_of : {P : Type 0} (a b : Bool) → a || b ≡ true → (a ≡ true → P) → (b ≡ true → P) → P
one_of true b h f g = f refl
one_of false b h f g = g h

pub on : {P : Type 0} (b : Bool) → (b ≡ true → P) → (b ≡ false → P) → P
on true f g = f refl
on false f g = g refl

pub clash : {P : Type 0} (b : Bool) → b ≡ false → b ≡ true → P
clash b g h = absurd (true≢false (sym h ∙ g))

pub digit_one : (b : Bool) → eqb (digit b) 1 ≡ b
digit_one true = refl
digit_one false = refl

not_itself : (b : Bool) → b && not b ≡ false
not_itself true = refl
not_itself false = refl

-- 0 has no bit.
no_bit : (k : ℕ) → bit k 0 ≡ false
no_bit k = bit_less k 0 0 ∙ not_itself (bit k 0)

pub bit_if : (k : ℕ) (b : Bool) (x : ℕ) → bit k (cond b x 0) ≡ cond b (bit k x) false
bit_if k true x = refl
bit_if k false x = no_bit k

-- Equal digits are equal bits.
pub same_digit : (x y : ℕ) → x ≡ y → eqb x 1 ≡ eqb y 1
same_digit x y h = ap (λ (n : ℕ). eqb n 1) h

-- A bit below w is kept modulo 2 ^ w.
pub low_bit : (k w x : ℕ) → bit k (2 ^ w - 1) ≡ true → bit k (x % 2 ^ w) ≡ bit k x
low_bit k w x h =
    ap (bit k) (sym (and_mask x w)) ∙ bit_of_and k x (2 ^ w - 1) ∙ ap (λ (b : Bool). bit k x && b) h ∙ and_true (bit k x)
