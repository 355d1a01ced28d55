-- An access touches SCSR or SCDR, by width and offset. Assumes nothing.
use mathlib.Core.Path.{◌≡◌, refl}
use mathlib.Core.Bool.{Bool, true, false, ◌&&◌}
use Prim.Native.Nat.{ℕ, ◌+◌, ◌<◌, ◌≤◌}
use native.Mathlib.Omega.{arith}
use lib.Dec.{eqb, ltb}
use borrow.Author.Tests.{eqb-true, eqb-false, ltb-true, ltb-false, le-ltb, le-leb, lt-leb, ne_eqb}
use Rattle.qsm.specs.model.Map.{decode}
use Rattle.qsm.specs.model.Lanes.{in_map, touches}
use Rattle.qsm.specs.model.Decision.{shaped}
use Rattle.claims_schedule.specs.Stops.{touching}

-- Where an offset lies beside 0C to 0F.
data Spot (o : ℕ) : Type 0 where
  before : o < 9 → Spot o
  at_9 : o ≡ 9 → Spot o
  at_A : o ≡ 10 → Spot o
  at_B : o ≡ 11 → Spot o
  at_C : o ≡ 12 → Spot o
  at_D : o ≡ 13 → Spot o
  at_E : o ≡ 14 → Spot o
  at_F : o ≡ 15 → Spot o
  behind : 15 < o → Spot o

up : (n o : ℕ) → n ≤ o → (o ≡ n → ⊥) → n + 1 ≤ o
up n o h ne = omega (arith, h, ne)

spot_by : (o : ℕ) (b a9 aA aB aC aD aE aF : Bool) → ltb o 9 ≡ b → eqb o 9 ≡ a9 → eqb o 10 ≡ aA → eqb o 11 ≡ aB → eqb o 12 ≡ aC → eqb o 13 ≡ aD → eqb o 14 ≡ aE → eqb o 15 ≡ aF → Spot o
spot_by o true a9 aA aB aC aD aE aF i j k l m n p q = before (ltb-true o 9 i)
spot_by o false true aA aB aC aD aE aF i j k l m n p q = at_9 (eqb-true o 9 j)
spot_by o false false true aB aC aD aE aF i j k l m n p q = at_A (eqb-true o 10 k)
spot_by o false false false true aC aD aE aF i j k l m n p q = at_B (eqb-true o 11 l)
spot_by o false false false false true aD aE aF i j k l m n p q = at_C (eqb-true o 12 m)
spot_by o false false false false false true aE aF i j k l m n p q = at_D (eqb-true o 13 n)
spot_by o false false false false false false true aF i j k l m n p q = at_E (eqb-true o 14 p)
spot_by o false false false false false false false true i j k l m n p q = at_F (eqb-true o 15 q)
spot_by o false false false false false false false false i j k l m n p q =
    behind
    (up 15 o
    (up 14 o
    (up 13 o
    (up 12 o
    (up 11 o
    (up 10 o (up 9 o (ltb-false o 9 i) (eqb-false o 9 j)) (eqb-false o 10 k))
    (eqb-false o 11 l))
    (eqb-false o 12 m))
    (eqb-false o 13 n))
    (eqb-false o 14 p))
    (eqb-false o 15 q))

spot : (o : ℕ) → Spot o
spot o = spot_by o (ltb o 9) (eqb o 9) (eqb o 10) (eqb o 11) (eqb o 12) (eqb o 13) (eqb o 14) (eqb o 15) refl refl refl refl refl refl refl refl

never : (a b c : Bool) → a && (b && (c && false)) ≡ false
never true true true = refl
never true true false = refl
never true false c = refl
never false b c = refl

never_first : (a b c : Bool) → a && (b && (false && c)) ≡ false
never_first true true c = refl
never_first true false c = refl
never_first false b c = refl

-- Passes 1 and 2 and touches, as the definition has it.
abbrev passing : ℕ → ℕ → Bool
passing width offset = shaped width offset && (in_map width offset && touches 0x0C 4 width offset)

byte_before : (o : ℕ) → o < 9 → passing 1 o ≡ touching 1 o
byte_before o h = rw (le-ltb 12 (o + 1) (omega arith), lt-leb 12 o (omega arith)) (never true (in_map 1 o) (ltb o 16))

byte_behind : (o : ℕ) → 15 < o → passing 1 o ≡ touching 1 o
byte_behind o h =
    rw (le-ltb o 16 (omega arith), le-leb 12 o (omega arith), lt-leb o 15 h) (never_first true (in_map 1 o) (ltb 12 (o + 1)))

byte : (o : ℕ) → Spot o → passing 1 o ≡ touching 1 o
unfolding in_map decode
byte o (before h) = byte_before o h
byte o (at_9 e) = rw e
byte o (at_A e) = rw e
byte o (at_B e) = rw e
byte o (at_C e) = rw e
byte o (at_D e) = rw e
byte o (at_E e) = rw e
byte o (at_F e) = rw e
byte o (behind h) = byte_behind o h

word_before : (o : ℕ) → o < 9 → passing 2 o ≡ touching 2 o
word_before o h =
    rw (le-ltb 12 (o + 2) (omega arith), ne_eqb o 12 (λ z. omega arith), ne_eqb o 14 (λ z. omega arith)) (never (shaped 2 o) (in_map 2 o) (ltb o 16))

word_behind : (o : ℕ) → 15 < o → passing 2 o ≡ touching 2 o
word_behind o h =
    rw (le-ltb o 16 (omega arith), ne_eqb o 12 (λ z. omega arith), ne_eqb o 14 (λ z. omega arith)) (never_first (shaped 2 o) (in_map 2 o) (ltb 12 (o + 2)))

word : (o : ℕ) → Spot o → passing 2 o ≡ touching 2 o
unfolding in_map decode
word o (before h) = word_before o h
word o (at_9 e) = rw e
word o (at_A e) = rw e
word o (at_B e) = rw e
word o (at_C e) = rw e
word o (at_D e) = rw e
word o (at_E e) = rw e
word o (at_F e) = rw e
word o (behind h) = word_behind o h

long_before : (o : ℕ) → o < 9 → passing 4 o ≡ touching 4 o
long_before o h =
    rw (le-ltb 12 (o + 4) (omega arith), ne_eqb o 10 (λ z. omega arith), ne_eqb o 12 (λ z. omega arith)) (never (shaped 4 o) (in_map 4 o) (ltb o 16))

long_behind : (o : ℕ) → 15 < o → passing 4 o ≡ touching 4 o
long_behind o h =
    rw (le-ltb o 16 (omega arith), ne_eqb o 10 (λ z. omega arith), ne_eqb o 12 (λ z. omega arith)) (never_first (shaped 4 o) (in_map 4 o) (ltb 12 (o + 4)))

long : (o : ℕ) → Spot o → passing 4 o ≡ touching 4 o
unfolding in_map decode
long o (before h) = long_before o h
long o (at_9 e) = rw e
long o (at_A e) = rw e
long o (at_B e) = rw e
long o (at_C e) = rw e
long o (at_D e) = rw e
long o (at_E e) = rw e
long o (at_F e) = rw e
long o (behind h) = long_behind o h

by_width : (w o : ℕ) (a b c : Bool) → eqb w 1 ≡ a → eqb w 2 ≡ b → eqb w 4 ≡ c → passing w o ≡ touching w o
by_width w o true b c i j k = rw (eqb-true w 1 i) (byte o (spot o))
by_width w o false true c i j k = rw (eqb-true w 2 j) (word o (spot o))
by_width w o false false true i j k = rw (eqb-true w 4 k) (long o (spot o))
by_width w o false false false i j k = rw (i, j, k)

pub passing_is : (w o : ℕ) → passing w o ≡ touching w o
passing_is w o = by_width w o (eqb w 1) (eqb w 2) (eqb w 4) refl refl refl
