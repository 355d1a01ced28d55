-- Texts and numbers as bytes: ASCII.
use Rattle.std.specs.Prelude.{cond, List, [], ◌∷◌, ◌++◌, ℕ, zero, suc, ◌+◌, ◌/◌, ◌%◌, ltb}
use Prim.Native.Char.{code}
use Prim.Native.String.{String, [] as none, ◌∷◌ as ◌then◌}
use Rattle.steps.specs.Bits.{upper_byte, lower_byte}

-- The bytes of a text.
abbrev pub ascii : String → List ℕ
ascii none = []
ascii (c then t) = code c ∷ ascii t

-- The last digit of n.
abbrev pub decimal_digit : ℕ → ℕ
decimal_digit n = 48 + n % 10

abbrev pub hex_digit : ℕ → ℕ
hex_digit n = cond (ltb (n % 16) 10) (48 + n % 16) (55 + n % 16)

-- n in decimal without leading zeros, its last digits where it has more than so many.
unfoldable pub decimal : ℕ → ℕ → List ℕ
decimal zero n = []
decimal (suc digits) n = cond (ltb n 10) [] (decimal digits (n / 10)) ++ (decimal_digit n ∷ [])

-- Two, four and eight digits, the highest first.
abbrev pub hex_byte : ℕ → List ℕ
hex_byte n = hex_digit (n / 16) ∷ hex_digit n ∷ []

abbrev pub hex_word : ℕ → List ℕ
hex_word n = hex_byte (upper_byte n) ++ hex_byte (lower_byte n)

abbrev pub hex_long : ℕ → List ℕ
hex_long n = hex_word (n / 65536 % 65536) ++ hex_word (n % 65536)

-- The number at the start of a line, up to 2 ^ 64 - 1.
abbrev pub number : ℕ → List ℕ
number n = decimal 20 n ++ ascii ": "
