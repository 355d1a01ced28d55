-- A pattern held against what was written by it, step by step. Assumes nothing.
use mathlib.Core.Path.{◌≡◌, refl}
use mathlib.Core.Bool.{Bool, true, false, ◌&&◌}
use mathlib.Core.List.{List, [], ◌∷◌, ◌++◌}
use Prim.Native.Nat.{ℕ, suc, ◌+◌, ◌-◌, ◌/◌, ◌%◌, ◌^◌, ◌<◌, ◌≤◌}
use native.Mathlib.Omega.{arith}
use lib.Dec.{ltb}
use lib.ListN.{length, drop, get_or, length-append}
use lib.Seq.{drop-append_seam}
use borrow.Author.Tests.{lt-ltb, le-ltb, eq-eqb, ne_eqb, ltb-true}
use Rattle.std.specs.Prelude.{Option, Some, None}
use Rattle.text.specs.Digits.{decimal, hex_byte, hex_word, hex_long}
use Rattle.tool_assemble.specs.Scan.{is_blank, blanks_from, digit_of, digits, number, limit, numeral, literal, closed, element, scan_from}
use Rattle.tool_assemble.specs.declared.scan.Taken.{Taken}
use Rattle.tool_assemble.specs.declared.scan.Numbers.{Numbers}
use Rattle.tool_assemble.proofs.Reading.{numeral_some}
use Rattle.claims_assembling.proofs.Digits.{hex_least, byte_digits, no_digit, decimal_read, decimal_first, decimal_some}

pub not_blank : (b : ℕ) → 33 ≤ b → is_blank b ≡ false
not_blank b h = rw (ne_eqb b 32 (λ e. omega arith), ne_eqb b 9 (λ e. omega arith), ne_eqb b 13 (λ e. omega arith))

-- A text that begins with no blank.
pub solid : (n : ℕ) (t : List ℕ) → 33 ≤ get_or t 0 0 → blanks_from n t ≡ n
unfolding blanks_from
solid n [] h = refl
solid n (b ∷ t) h = rw (not_blank b h)

pub not_closed : (n : ℕ) (t : List ℕ) → 48 ≤ get_or t 0 0 → closed n t ≡ None
unfolding closed
not_closed n [] h = absurd (omega arith)
not_closed n (b ∷ t) h = rw (ne_eqb b 35 (λ e. omega arith))

-- ---- bytes

abbrev pub plain : List ℕ → Bool
plain [] = true
plain (c ∷ w) = ltb 32 c && plain w

both : (p q : Bool) → p && q ≡ true → (p ≡ true) × (q ≡ true)
both true q h = (refl, h)
both false q h = let z : ◌≡◌ {A = ℕ} 0 1 = cc in absurd (omega arith)

pub bytes_step : (w cs t : List ℕ) (n : Numbers) → plain w ≡ true → scan_from (w ++ cs) (w ++ t) n ≡ scan_from cs t n
unfolding scan_from element literal
bytes_step [] cs t n h = refl
bytes_step (c ∷ w) cs t n h =
    let parts = both (ltb 32 c) (plain w) h in
    let above : 32 < c = ltb-true 32 c parts.0 in
    rw (le-ltb c 31 (omega arith), ne_eqb c 31 (λ e. omega arith), ne_eqb c 32 (λ e. omega arith), eq-eqb c c refl) (bytes_step w cs t n parts.1)

-- ---- blanks

pub gap_step : (cs t : List ℕ) (n : Numbers) → 33 ≤ get_or t 0 0 → scan_from (32 ∷ cs) (32 ∷ t) n ≡ scan_from cs t n
unfolding scan_from element blanks_from
gap_step cs t n h = rw (solid 1 t h)

-- ---- numbers

abbrev pub found : ℕ → ℕ → Option Taken
found length value = Some (record { length = length; value = Some value })

abbrev pub push : Numbers → ℕ → Numbers
push n v = record { first = n.second; second = n.third; third = v }

pub number_step : (c v : ℕ) (x cs t : List ℕ) (n : Numbers) → c < 31 → numeral c (x ++ t) ≡ found (length x) v →
    scan_from (c ∷ cs) (x ++ t) n ≡ scan_from cs t (push n v)
unfolding scan_from element
number_step c v x cs t n field is = rw (lt-ltb c 31 field, is, drop-append_seam x t)

some_first : (t : List ℕ) → 48 ≤ get_or t 0 0 → 0 < length t
some_first [] h = absurd (omega arith)
some_first (b ∷ t) h = omega arith

-- Digits that are not marked.
pub hex_numeral : (c : ℕ) (t : List ℕ) → c < 4 → 48 ≤ get_or t 0 0 → numeral c t ≡ number 0 (digits 16 (limit c) 0 0 t)
hex_numeral c t field h =
    rw (
      numeral_some c t (some_first t h),
      ne_eqb (get_or t 0 0) 36 (λ e. omega arith),
      ne_eqb (get_or t 0 0) 38 (λ e. omega arith),
      lt-ltb c 4 field,
    )

pub decimal_numeral : (c : ℕ) (t : List ℕ) → 4 ≤ c → 48 ≤ get_or t 0 0 → numeral c t ≡ number 0 (digits 10 (limit c) 0 0 t)
decimal_numeral c t field h =
    rw (
      numeral_some c t (some_first t h),
      ne_eqb (get_or t 0 0) 36 (λ e. omega arith),
      ne_eqb (get_or t 0 0) 38 (λ e. omega arith),
      le-ltb c 4 field,
    )

-- Pins: two hexadecimal digits.
pub pins_read : (p : ℕ) (t : List ℕ) → p < 256 → 16 ≤ digit_of (get_or t 0 0) → numeral 1 (hex_byte p ++ t) ≡ found 2 p
pins_read p t small ended =
    rw (hex_numeral 1 (hex_byte p ++ t) (omega arith) (hex_least (p / 16)), byte_digits 256 0 0 p p t small (omega arith) small, no_digit 16 256 p 2 t ended)

-- An offset: four.
pub offset_read : (o : ℕ) (t : List ℕ) → o < 65536 → 16 ≤ digit_of (get_or t 0 0) → numeral 2 (hex_word o ++ t) ≡ found 4 o
offset_read o t small ended =
    let high = o / 256 % 256 in
    let low = o % 256 in
    rw (
      hex_numeral 2 (hex_word o ++ t) (omega arith) (hex_least (high / 16)),
      byte_digits 65536 0 0 high high (hex_byte low ++ t) (omega arith) (omega arith) (omega arith),
      byte_digits 65536 high 2 low o t (omega arith) (omega arith) small,
      no_digit 16 65536 o 4 t ended,
    )

-- A value: eight.
pub value_read : (v : ℕ) (t : List ℕ) → v < 4294967296 → 16 ≤ digit_of (get_or t 0 0) → numeral 3 (hex_long v ++ t) ≡ found 8 v
value_read v t small ended =
    let upper = v / 65536 % 65536 in
    let lower = v % 65536 in
    let a = upper / 256 % 256 in
    let b = upper % 256 in
    let c = lower / 256 % 256 in
    let d = lower % 256 in
    rw (
      hex_numeral 3 (hex_long v ++ t) (omega arith) (hex_least (a / 16)),
      byte_digits 4294967296 0 0 a a (hex_byte b ++ hex_byte c ++ hex_byte d ++ t) (omega arith) (omega arith) (omega arith),
      byte_digits 4294967296 a 2 b upper (hex_byte c ++ hex_byte d ++ t) (omega arith) (omega arith) (omega arith),
      byte_digits 4294967296 upper 4 c (v / 256) (hex_byte d ++ t) (omega arith) (omega arith) (omega arith),
      byte_digits 4294967296 (v / 256) 6 d v t (omega arith) (omega arith) small,
      no_digit 16 4294967296 v 8 t ended,
    )

-- Decimal digits of a field.
pub decimal_field : (c k n most : ℕ) (t : List ℕ) → 4 ≤ c → limit c ≡ most → n < most → n < 10 ^ suc k → 10 ≤ digit_of (get_or t 0 0) →
    numeral c (decimal (suc k) n ++ t) ≡ found (length (decimal (suc k) n)) n
decimal_field c k n most t field is small fits ended =
    let there : 0 < length (decimal (suc k) n) = decimal_some k n in
    let count : 0 + length (decimal (suc k) n) ≡ length (decimal (suc k) n) = omega arith in
    let plus : length (decimal (suc k) n) + 0 ≡ length (decimal (suc k) n) = omega arith in
    rw (
      decimal_numeral c (decimal (suc k) n ++ t) field (decimal_first (suc k) n t (omega arith)).0,
      is,
      decimal_read (suc k) n most 0 t fits small,
      count,
      no_digit 10 most n (length (decimal (suc k) n)) t ended,
      ne_eqb (length (decimal (suc k) n)) 0 (λ e. omega arith),
      plus,
    )

-- The rest that a pattern left.
pub suffix : (x r : List ℕ) → drop (length (x ++ r) - length r) (x ++ r) ≡ r
suffix x r =
    let front : length x + length r - length r ≡ length x = omega arith in
    rw (length-append x r, front, drop-append_seam x r)
