-- Bytes as messages show them.
use Rattle.std.specs.Prelude.{Bool, false, cond, List, [], ◌∷◌, ℕ, ◌+◌, ◌/◌, ◌%◌, ltb}

-- 0 to 9, A to F.
abbrev pub hex_digit : ℕ → ℕ
hex_digit d = cond (ltb d 10) (48 + d) (55 + d)

-- From the blank to the tilde.
abbrev pub printable : ℕ → Bool
printable b = cond (ltb b 32) false (ltb b 127)

-- A backslash, an x and two digits.
abbrev pub escape : ℕ → List ℕ
escape b = 92 ∷ 120 ∷ hex_digit (b / 16 % 16) ∷ hex_digit (b % 16) ∷ []
