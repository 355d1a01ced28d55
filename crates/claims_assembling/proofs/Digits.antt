-- Digits that `text` writes, read back. Assumes nothing.
use mathlib.Core.Path.{◌≡◌, refl, ◌∙◌}
use mathlib.Core.Bool.{Bool, true, false, cond}
use mathlib.Core.List.{List, [], ◌∷◌, ◌++◌, append_assoc}
use Prim.Native.Nat.{ℕ, zero, suc, ◌+◌, ◌-◌, ◌*◌, ◌/◌, ◌%◌, ◌^◌, ◌<◌, ◌≤◌}
use native.Mathlib.Nat.{pow-suc}
use native.Mathlib.Omega.{arith}
use lib.Dec.{ltb}
use lib.ListN.{length, get_or, length-append}
use borrow.Author.Tests.{lt-ltb, le-ltb, ltb-true, ltb-false}
use Rattle.text.specs.Digits.{decimal, decimal_digit, hex_digit, hex_byte}
use Rattle.text.proofs.Decimal.{decimal_none, decimal_one, decimal_more}
use Rattle.tool_assemble.specs.Scan.{digit_of, takes, digits}
use Rattle.tool_assemble.specs.Item.{fronted_from}

-- ---- one digit

pub digit_of_decimal : (n : ℕ) → digit_of (decimal_digit n) ≡ n % 10
digit_of_decimal n =
    let value : 48 + n % 10 - 48 ≡ n % 10 = omega arith in
    rw (le-ltb (48 + n % 10) 48 (omega arith), lt-ltb (48 + n % 10) 58 (omega arith), value)

hex_cases : (d : ℕ) (low : Bool) → ltb d 10 ≡ low → d < 16 → digit_of (cond low (48 + d) (55 + d)) ≡ d
hex_cases d true is small =
    let few : d < 10 = ltb-true d 10 is in
    let value : 48 + d - 48 ≡ d = omega arith in
    rw (le-ltb (48 + d) 48 (omega arith), lt-ltb (48 + d) 58 (omega arith), value)
hex_cases d false is small =
    let many : 10 ≤ d = ltb-false d 10 is in
    let value : 55 + d - 55 ≡ d = omega arith in
    rw (
      le-ltb (55 + d) 48 (omega arith),
      le-ltb (55 + d) 58 (omega arith),
      le-ltb (55 + d) 65 (omega arith),
      lt-ltb (55 + d) 71 (omega arith),
      value,
    )

pub hex_digit_holds : (n : ℕ) → digit_of (hex_digit n) ≡ n % 16
hex_digit_holds n = hex_cases (n % 16) (ltb (n % 16) 10) refl (omega arith)

hex_least_by : (d : ℕ) (low : Bool) → 48 ≤ cond low (48 + d) (55 + d)
hex_least_by d true = omega arith
hex_least_by d false = omega arith

pub hex_least : (n : ℕ) → 48 ≤ hex_digit n
hex_least n = hex_least_by (n % 16) (ltb (n % 16) 10)

-- One digit more of a number.
pub one_digit : (base most m i b d v : ℕ) (r : List ℕ) → digit_of b ≡ d → d < base → m * base + d ≡ v → v < most →
    digits base most m i (b ∷ r) ≡ digits base most v (suc i) r
unfolding digits takes
one_digit base most m i b d v r is small value fits = rw (is, lt-ltb d base small, value, lt-ltb v most fits)

-- What is no digit ends a number.
pub no_digit : (base most n k : ℕ) (t : List ℕ) → base ≤ digit_of (get_or t 0 0) → digits base most n k t ≡ record { value = n; length = k }
unfolding digits takes
no_digit base most n k [] h = refl
no_digit base most n k (b ∷ t) h = rw (le-ltb (digit_of b) base h)

-- Two hexadecimal digits more.
pub byte_digits : (most m i x v : ℕ) (r : List ℕ) → x < 256 → m * 256 + x ≡ v → v < most →
    digits 16 most m i (hex_byte x ++ r) ≡ digits 16 most v (suc (suc i)) r
byte_digits most m i x v r small value fits =
    one_digit 16 most m i (hex_digit (x / 16)) (x / 16 % 16) (m * 16 + x / 16) (hex_digit x ∷ r) (hex_digit_holds (x / 16)) (omega arith) (omega arith) (omega arith)
    ∙ one_digit 16 most (m * 16 + x / 16) (suc i) (hex_digit x) (x % 16) v r (hex_digit_holds x) (omega arith) (omega arith) fits

-- ---- decimal numbers

decimal_step : (k n most i : ℕ) (r : List ℕ) (first : Bool) → ltb n 10 ≡ first → n < most →
    digits 10 most 0 i (decimal k (n / 10) ++ (decimal_digit n ∷ r)) ≡ digits 10 most (n / 10) (i + length (decimal k (n / 10))) (decimal_digit n ∷ r) →
    digits 10 most 0 i (decimal (suc k) n ++ r) ≡ digits 10 most n (i + length (decimal (suc k) n)) r
decimal_step k n most i r true is fits before =
    let few : n < 10 = ltb-true n 10 is in
    let last : n % 10 ≡ n = omega arith in
    let more : i + 1 ≡ suc i = omega arith in
    rw (decimal_one (suc k) n (omega arith) few, more)
    (one_digit 10 most 0 i (decimal_digit n) n n r (digit_of_decimal n ∙ last) few (omega arith) fits)
decimal_step k n most i r false is fits before =
    let many : 10 ≤ n = ltb-false n 10 is in
    let less : suc k - 1 ≡ k = omega arith in
    let more : i + (length (decimal k (n / 10)) + 1) ≡ suc (i + length (decimal k (n / 10))) = omega arith in
    rw (decimal_more (suc k) n (omega arith) many, less, append_assoc (decimal k (n / 10)) (decimal_digit n ∷ []) r, length-append (decimal k (n / 10)) (decimal_digit n ∷ []), more, before)
    (one_digit 10 most (n / 10) (i + length (decimal k (n / 10))) (decimal_digit n) (n % 10) n r (digit_of_decimal n) (omega arith) (omega arith) fits)

pub decimal_read : (k n most i : ℕ) (r : List ℕ) → n < 10 ^ k → n < most →
    digits 10 most 0 i (decimal k n ++ r) ≡ digits 10 most n (i + length (decimal k n)) r
decimal_read zero n most i r h fits =
    let none : n ≡ 0 = omega arith in
    let same : i + 0 ≡ i = omega arith in
    rw (decimal_none, none, same)
decimal_read (suc k) n most i r h fits =
    let ten : 10 ^ suc k ≡ 10 ^ k * 10 = pow-suc 10 k in
    decimal_step k n most i r (ltb n 10) refl fits (decimal_read k (n / 10) most i (decimal_digit n ∷ r) (omega arith) (omega arith))

-- ---- a number in front

front_digit : (i n : ℕ) (r : List ℕ) → fronted_from i (decimal_digit n ∷ r) ≡ fronted_from (suc i) r
unfolding fronted_from
front_digit i n r = rw (digit_of_decimal n, le-ltb 9 (n % 10) (omega arith))

front_step : (k n i : ℕ) (r : List ℕ) (first : Bool) → ltb n 10 ≡ first →
    fronted_from i (decimal k (n / 10) ++ (decimal_digit n ∷ r)) ≡ fronted_from (i + length (decimal k (n / 10))) (decimal_digit n ∷ r) →
    fronted_from i (decimal (suc k) n ++ r) ≡ fronted_from (i + length (decimal (suc k) n)) r
front_step k n i r true is before =
    let few : n < 10 = ltb-true n 10 is in
    let more : i + 1 ≡ suc i = omega arith in
    rw (decimal_one (suc k) n (omega arith) few, more) (front_digit i n r)
front_step k n i r false is before =
    let many : 10 ≤ n = ltb-false n 10 is in
    let less : suc k - 1 ≡ k = omega arith in
    let more : i + (length (decimal k (n / 10)) + 1) ≡ suc (i + length (decimal k (n / 10))) = omega arith in
    rw (decimal_more (suc k) n (omega arith) many, less, append_assoc (decimal k (n / 10)) (decimal_digit n ∷ []) r, length-append (decimal k (n / 10)) (decimal_digit n ∷ []), more, before)
    (front_digit (i + length (decimal k (n / 10))) n r)

pub front_read : (k n i : ℕ) (r : List ℕ) → fronted_from i (decimal k n ++ r) ≡ fronted_from (i + length (decimal k n)) r
front_read zero n i r = let same : i + 0 ≡ i = omega arith in rw (decimal_none, same)
front_read (suc k) n i r = front_step k n i r (ltb n 10) refl (front_read k (n / 10) i (decimal_digit n ∷ r))

-- ---- what a decimal number begins with

abbrev pub Digit : ℕ → Type 0
Digit b = (48 ≤ b) × (b < 58)

first_step : (k n : ℕ) (r : List ℕ) (first : Bool) → ltb n 10 ≡ first → (0 < k → Digit (get_or (decimal k (n / 10) ++ (decimal_digit n ∷ r)) 0 0)) →
    Digit (get_or (decimal (suc k) n ++ r) 0 0)
first_step k n r true is before = rw (decimal_one (suc k) n (omega arith) (ltb-true n 10 is)) (omega arith, omega arith)
first_step zero n r false is before =
    let less : 1 - 1 ≡ 0 = omega arith in
    rw (decimal_more 1 n (omega arith) (ltb-false n 10 is), less, decimal_none) (omega arith, omega arith)
first_step (suc k) n r false is before =
    let less : suc (suc k) - 1 ≡ suc k = omega arith in
    rw (decimal_more (suc (suc k)) n (omega arith) (ltb-false n 10 is), less, append_assoc (decimal (suc k) (n / 10)) (decimal_digit n ∷ []) r) (before (omega arith))

pub decimal_first : (k n : ℕ) (r : List ℕ) → 0 < k → Digit (get_or (decimal k n ++ r) 0 0)
decimal_first zero n r h = absurd (omega arith)
decimal_first (suc k) n r h = first_step k n r (ltb n 10) refl (λ more. decimal_first k (n / 10) (decimal_digit n ∷ r) more)

length_step : (k n : ℕ) (first : Bool) → ltb n 10 ≡ first → 0 < length (decimal (suc k) n)
length_step k n true is = rw (decimal_one (suc k) n (omega arith) (ltb-true n 10 is)) (omega arith)
length_step k n false is = rw (decimal_more (suc k) n (omega arith) (ltb-false n 10 is)) (simp length-append (omega arith))

pub decimal_some : (k n : ℕ) → 0 < length (decimal (suc k) n)
decimal_some k n = length_step k n (ltb n 10) refl
