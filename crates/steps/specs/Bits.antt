-- Bits and bytes of a number, and the byte lanes of a register word.
use Rattle.std.specs.Prelude.{Bool, cond, ℕ, ◌+◌, ◌*◌, ◌/◌, ◌%◌, ◌^◌, eqb}

-- Bit k of n.
abbrev pub bit : ℕ → ℕ → Bool
bit k n = eqb (n / 2 ^ k % 2) 1

-- A bool as a digit.
abbrev pub digit : Bool → ℕ
digit b = cond b 1 0

abbrev pub upper_byte : ℕ → ℕ
upper_byte w = w / 256 % 256

abbrev pub lower_byte : ℕ → ℕ
lower_byte w = w % 256

-- A big-endian word of two bytes.
abbrev pub word : ℕ → ℕ → ℕ
word h l = h * 256 + l

-- A word written by its bytes: `upper` and `lower` say which of the two the write touches.
abbrev pub merge : ℕ → ℕ → Bool → Bool → ℕ
merge old new upper lower =
    word (cond upper (upper_byte new) (upper_byte old)) (cond lower (lower_byte new) (lower_byte old))
