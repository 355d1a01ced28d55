-- Which words of the serial half the bytes of an access are of, computed over the map once. Assumes nothing.
use mathlib.Core.Path.{◌≡◌, refl, sym}
use mathlib.Core.Bool.{Bool, true, false, not, ◌&&◌, ◌||◌, beq, false≢true}
use Prim.Native.Nat.{ℕ, zero, suc, ◌+◌, ◌%◌, ◌<◌, ◌≤◌}
use native.Mathlib.Omega.{arith}
use lib.Dec.{eqb, leb, ltb}
use borrow.Author.Tests.{ltb-true, ltb-false, leb-true, lt-ltb, le-leb, lt-leb, eqb-true, eqb-false}
use Rattle.sci.proofs.Membership.{and_left, and_right}
use Rattle.qsm.specs.model.Map.{decode, mapped}
use Rattle.qsm.specs.model.Lanes.{lower_lane, in_map, touches}
use Rattle.qsm.specs.model.Access.{next}
use Rattle.qsm.specs.declared.map.Place.{Place}
use Rattle.qsm.specs.declared.map.Place.TheVariants.{Own, Serial, Queue, Hole}
use Rattle.qsm.specs.declared.map.SerialWord.TheVariants.{Sccr0, Sccr1, Scsr, Scdr}
use Rattle.qsm.proofs.Booleans.{constants, both, left_or, right_or, one_of, on, clash}
use Rattle.claims_clauses.specs.FlagsFall.{has_byte}

pub same_bool : (a b : Bool) → beq a b ≡ true → a ≡ b
same_bool true true h = refl
same_bool true false h = absurd (false≢true h)
same_bool false true h = absurd (false≢true h)
same_bool false false h = refl

pub bool_ext : (a b : Bool) → (a ≡ true → b ≡ true) → (b ≡ true → a ≡ true) → a ≡ b
bool_ext true b f g = sym (f refl)
bool_ext false true f g = g refl
bool_ext false false f g = refl

-- A test computed for each number below n holds of each.
unfoldable pub every : (ℕ → Bool) → ℕ → Bool
every f zero = true
every f (suc n) = every f n && f n

pub at : (f : ℕ → Bool) (n : ℕ) → every f n ≡ true → (k : ℕ) → k < n → f k ≡ true
unfolding every
at f zero t k h = absurd (let no : ◌≡◌ {A = ℕ} 0 1 = omega arith in omega arith)
at f (suc n) t k h =
    on (eqb k n) (λ e. rw (eqb-true k n e) (and_right (every f n) (f n) t))
    (λ e. at f n (and_left (every f n) (f n) t) k (omega (arith, eqb-false k n e)))

-- ---- reads

pub touches_low : (w o : ℕ) → touches 0x0F 1 w o ≡ has_byte 0x0F w o
touches_low w o =
    bool_ext (touches 0x0F 1 w o) (has_byte 0x0F w o)
    (λ t.
    let a : o < 0x10 = ltb-true o 0x10 (and_left _ _ t) in
    both (leb o 0x0F) (ltb 0x0F (o + w)) (le-leb o 0x0F (omega arith)) (and_right (ltb o 0x10) _ t))
    (λ t.
    let a : o ≤ 0x0F = leb-true o 0x0F (and_left _ _ t) in
    both (ltb o 0x10) (ltb 0x0F (o + w)) (lt-ltb o 0x10 (omega arith)) (and_right (leb o 0x0F) _ t))

pub touches_status : (w o : ℕ) → 0 < w → touches 0x0C 2 w o ≡ has_byte 0x0C w o || has_byte 0x0D w o
touches_status w o some =
    bool_ext (touches 0x0C 2 w o) (has_byte 0x0C w o || has_byte 0x0D w o)
    (λ t.
    let a : o < 0x0E = ltb-true o 0x0E (and_left _ _ t) in
    let b : 0x0C < o + w = ltb-true 0x0C (o + w) (and_right (ltb o 0x0E) _ t) in
    on (leb o 0x0C)
    (λ e. left_or (has_byte 0x0C w o) _ (both (leb o 0x0C) (ltb 0x0C (o + w)) e (lt-ltb 0x0C (o + w) b)))
    (λ e. right_or (has_byte 0x0C w o) (has_byte 0x0D w o)
    (both (leb o 0x0D) (ltb 0x0D (o + w)) (le-leb o 0x0D (omega arith)) (lt-ltb 0x0D (o + w) (omega (arith, above e))))))
    (λ t. one_of (has_byte 0x0C w o) (has_byte 0x0D w o) t
    (λ e.
    let a : o ≤ 0x0C = leb-true o 0x0C (and_left _ _ e) in
    both (ltb o 0x0E) (ltb 0x0C (o + w)) (lt-ltb o 0x0E (omega arith)) (and_right (leb o 0x0C) _ e))
    (λ e.
    let a : o ≤ 0x0D = leb-true o 0x0D (and_left _ _ e) in
    let b : 0x0D < o + w = ltb-true 0x0D (o + w) (and_right (leb o 0x0D) _ e) in
    both (ltb o 0x0E) (ltb 0x0C (o + w)) (lt-ltb o 0x0E (omega arith)) (lt-ltb 0x0C (o + w) (omega arith))))
  where
    above : leb o 0x0C ≡ false → 0x0C < o
    above e = borrow.Author.Tests.leb-false o 0x0C e

-- ---- writes

abbrev pub is_scdr : Place → Bool
is_scdr (Own w) = false
is_scdr (Serial Sccr0) = false
is_scdr (Serial Sccr1) = false
is_scdr (Serial Scsr) = false
is_scdr (Serial Scdr) = true
is_scdr (Queue w) = false
is_scdr Hole = false

abbrev pub is_sccr1 : Place → Bool
is_sccr1 (Own w) = false
is_sccr1 (Serial Sccr0) = false
is_sccr1 (Serial Sccr1) = true
is_sccr1 (Serial Scsr) = false
is_sccr1 (Serial Scdr) = false
is_sccr1 (Queue w) = false
is_sccr1 Hole = false

-- A write of it leaves the serial half as it was.
abbrev pub still : Place → Bool
still (Own w) = true
still (Serial Sccr0) = false
still (Serial Sccr1) = false
still (Serial Scsr) = true
still (Serial Scdr) = false
still (Queue w) = true
still Hole = true

-- The control word's bytes.
abbrev pub control : ℕ → ℕ → Bool
control w o = has_byte 0x0A w o || has_byte 0x0B w o

abbrev pub OneWord : ℕ → ℕ → Place → Bool → Bool
OneWord w o p low = beq (is_scdr p && low) (has_byte 0x0F w o) && beq (is_sccr1 p) (control w o)

abbrev unless : Bool → Bool → Bool
unless a b = not a || b

one_byte : ℕ → Bool
unfolding decode in_map
one_byte o = unless (in_map 1 o) (OneWord 1 o (decode o) (lower_lane 1 o))

one_word : ℕ → Bool
unfolding decode in_map
one_word o = unless (eqb (o % 2) 0 && in_map 2 o) (OneWord 2 o (decode o) true)

abbrev pub Second : ℕ → Place → Place → Bool
Second o p q = not (is_scdr p) && not (is_sccr1 p) && OneWord 4 o q true

abbrev pub First : ℕ → Place → Place → Bool
First o p q = still q && OneWord 4 o p true

two_words : ℕ → Bool
unfolding decode in_map
two_words o =
    unless (eqb (o % 2) 0 && in_map 4 o) (Second o (decode o) (decode (next o)) || First o (decode o) (decode (next o)))

bytes_right : every one_byte 336 ≡ true
unfolding every one_byte decode in_map
bytes_right = refl

words_right : every one_word 336 ≡ true
unfolding every one_word decode in_map
words_right = refl

longs_right : every two_words 336 ≡ true
unfolding every two_words decode in_map
longs_right = refl

-- Beyond the map.
beyond : (o : ℕ) → 336 ≤ o → decode o ≡ Hole
unfolding decode
beyond o h =
    simp (constants, lt-leb o 0x01 (omega arith), lt-leb o 0x05 (omega arith), lt-leb o 0x09 (omega arith), lt-leb o 0x0B (omega arith), lt-leb o 0x0D (omega arith), lt-leb o 0x0F (omega arith), lt-leb o 0x15 (omega arith), lt-leb o 0x17 (omega arith), lt-leb o 0x19 (omega arith), lt-leb o 0x1B (omega arith), lt-leb o 0x1D (omega arith), lt-leb o 0x1F (omega arith), lt-leb o 0x11F (omega arith), lt-leb o 0x13F (omega arith), lt-leb o 0x14F (omega arith))

pub within : (w o : ℕ) → in_map w o ≡ true → o < 336
unfolding in_map
within w o h =
    on (ltb o 336) (λ e. ltb-true o 336 e)
    (λ e.
    let far : decode o ≡ Hole = beyond o (ltb-false o 336 e) in
    clash (mapped (decode o)) (rw far) (and_left (mapped (decode o)) _ h))

given : (a b : Bool) → unless a b ≡ true → a ≡ true → b ≡ true
given true b t h = t
given false b t h = absurd (false≢true h)

pub byte_place : (o : ℕ) → in_map 1 o ≡ true → OneWord 1 o (decode o) (lower_lane 1 o) ≡ true
unfolding one_byte
byte_place o h = given (in_map 1 o) _ (at one_byte 336 bytes_right o (within 1 o h)) h

pub word_place : (o : ℕ) → eqb (o % 2) 0 ≡ true → in_map 2 o ≡ true → OneWord 2 o (decode o) true ≡ true
unfolding one_word
word_place o even h =
    given (eqb (o % 2) 0 && in_map 2 o) _ (at one_word 336 words_right o (within 2 o h)) (both (eqb (o % 2) 0) (in_map 2 o) even h)

pub long_place : (o : ℕ) → eqb (o % 2) 0 ≡ true → in_map 4 o ≡ true →
    Second o (decode o) (decode (next o)) || First o (decode o) (decode (next o)) ≡ true
unfolding two_words
long_place o even h =
    given (eqb (o % 2) 0 && in_map 4 o) _ (at two_words 336 longs_right o (within 4 o h)) (both (eqb (o % 2) 0) (in_map 4 o) even h)
