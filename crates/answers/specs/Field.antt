-- The fields of an answer by name: where each begins, its bytes and its number.
use Rattle.std.specs.Prelude.{cond, List, [], ◌∷◌, ℕ, eqb, ltb}
use Rattle.answers.specs.declared.Field.{Field}
use Rattle.answers.specs.declared.Field.TheVariants.{Kind, Refusal, Value, Levels, Mask, Level, Vector, Clock}

abbrev pub in_their_order : List Field
in_their_order = Kind ∷ Refusal ∷ Value ∷ Levels ∷ Mask ∷ Level ∷ Vector ∷ Clock ∷ []

-- How many stand before it.
abbrev pub place_of : Field → ℕ
place_of Kind = 0
place_of Refusal = 1
place_of Value = 2
place_of Levels = 3
place_of Mask = 4
place_of Level = 5
place_of Vector = 6
place_of Clock = 7

abbrev pub start_of : Field → ℕ
start_of Kind = 0
start_of Refusal = 1
start_of Value = 2
start_of Levels = 6
start_of Mask = 7
start_of Level = 8
start_of Vector = 9
start_of Clock = 10

abbrev pub size_of : Field → ℕ
size_of Kind = 1
size_of Refusal = 1
size_of Value = 4
size_of Levels = 1
size_of Mask = 1
size_of Level = 1
size_of Vector = 1
size_of Clock = 8

-- The field that the byte at a place is of.
abbrev pub field_at : ℕ → Field
field_at i =
    cond (eqb i 0) Kind
    (cond (eqb i 1) Refusal
    (cond (ltb i 6) Value
    (cond (eqb i 6) Levels (cond (eqb i 7) Mask (cond (eqb i 8) Level (cond (eqb i 9) Vector Clock))))))

-- The numbers of which 02, L2 adds up sums.
abbrev pub field_number : Field → ℕ
field_number Kind = 1
field_number Refusal = 2
field_number Value = 4
field_number Levels = 8
field_number Mask = 16
field_number Level = 32
field_number Vector = 64
field_number Clock = 128
