-- Document 01, Trace, and 02, L9: an answer is a kind byte, then a body of fixed length. Fields are big-endian.
use Rattle.std.specs.Prelude.{Bool, cond, ◌||◌, List, [], ◌∷◌, ◌++◌, ℕ, ◌+◌, ◌/◌, ◌%◌, ◌^◌, eqb, take}

-- Kind 10 is without the clock, kind 11 has it.
abbrev pub plain : ℕ
plain = 0x10

abbrev pub clocked : ℕ
clocked = 0x11

abbrev pub known_kind : ℕ → Bool
known_kind kind = eqb kind plain || eqb kind clocked

-- The bytes of an answer of each.
abbrev pub plain_length : ℕ
plain_length = 10

abbrev pub clocked_length : ℕ
clocked_length = 18

abbrev pub length_of : ℕ → ℕ
length_of kind = cond (eqb kind clocked) clocked_length plain_length

-- The fields in order, each by its number of bytes: kind, refusal, value, levels, mask, level, vector, clock.
abbrev pub fields : List ℕ
fields = 1 ∷ 1 ∷ 4 ∷ 1 ∷ 1 ∷ 1 ∷ 1 ∷ 8 ∷ []

abbrev pub field_count : ℕ → ℕ
field_count kind = cond (eqb kind clocked) 8 7

abbrev pub fields_of : ℕ → List ℕ
fields_of kind = take (field_count kind) fields

-- The bytes of an answer of such fields, and of those of a kind, which are as many as its length says (`Strides`).
abbrev pub stride : List ℕ → ℕ
stride [] = 0
stride (n ∷ ns) = n + stride ns

abbrev pub stride_of : ℕ → ℕ
stride_of kind = stride (fields_of kind)

-- What stands behind the kind, in both alike: refusal or 0, value (4), driven levels, driven mask, level, vector.
abbrev pub body_of : ℕ → ℕ → ℕ → ℕ → ℕ → ℕ → List ℕ
body_of refusal value levels mask level vector =
    refusal ∷
    value / 16777216 % 256 ∷
    value / 65536 % 256 ∷
    value / 256 % 256 ∷
    value % 256 ∷
    levels ∷
    mask ∷
    level ∷
    vector ∷
    []

-- The clocks since reset (8).
abbrev pub clock_bytes : ℕ → List ℕ
clock_bytes n =
    n / 2 ^ 56 % 256 ∷
    n / 2 ^ 48 % 256 ∷
    n / 2 ^ 40 % 256 ∷
    n / 2 ^ 32 % 256 ∷
    n / 2 ^ 24 % 256 ∷
    n / 2 ^ 16 % 256 ∷
    n / 2 ^ 8 % 256 ∷
    n % 256 ∷
    []

-- An answer of kind 11.
abbrev pub bytes_of : ℕ → ℕ → ℕ → ℕ → ℕ → ℕ → ℕ → List ℕ
bytes_of refusal value levels mask level vector clock =
    clocked ∷ (body_of refusal value levels mask level vector ++ clock_bytes clock)
