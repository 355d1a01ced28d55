-- The names of the registers that an access touches: how long they are in a text, and which offset they belong to.
use Rattle.std.specs.Prelude.{Bool, true, false, cond, ◌&&◌, ◌||◌, List, [], ◌∷◌, ℕ, zero, suc, ◌%◌, eqb, length, get_or}
use Rattle.text.specs.Register.{registers}
use Rattle.tool_assemble.specs.Scan.{is_blank}
use Rattle.tool_assemble.specs.declared.names.Offset.{Offset}
use Rattle.tool_assemble.specs.declared.names.Offset.TheVariants.{Nowhere, At, Several}

-- The word `at`.
abbrev pub at_word : ℕ → ℕ → ℕ → Bool
at_word a b c = eqb a 97 && eqb b 116 && is_blank c

-- What ends a name behind a blank: the end, a comment, a blank, the word `at`.
abbrev pub blank_stops : ℕ → ℕ → ℕ → Bool
blank_stops a b c = eqb a 0 || eqb a 35 || is_blank a || at_word a b c

-- A comma, a comment, or such a blank.
abbrev pub stops : List ℕ → Bool
stops t =
    cond (is_blank (get_or t 0 0)) (blank_stops (get_or t 1 0) (get_or t 2 0) (get_or t 3 0))
    (eqb (get_or t 0 0) 44 || eqb (get_or t 0 0) 35)

-- The bytes of the names that a text begins with, behind so many.
unfoldable pub name_from : ℕ → List ℕ → ℕ
name_from n [] = n
name_from n (b ∷ t) = cond (stops (b ∷ t)) n (name_from (suc n) t)

abbrev pub name_length : List ℕ → ℕ
name_length t = name_from 0 t

-- A text begins with a word.
unfoldable pub begins : List ℕ → List ℕ → Bool
begins [] t = true
begins (w ∷ ws) [] = false
begins (w ∷ ws) (b ∷ t) = cond (eqb w b) (begins ws t) false

-- The first k bytes of a text are the names that `text` gives an access of that width at an offset.
unfoldable pub is_name : ℕ → ℕ → List ℕ → ℕ → Bool
is_name width offset t k = cond (eqb (length (registers width offset)) k) (begins (registers width offset) t) false

-- Where an access of that width may stand: a byte anywhere, others at even offsets.
abbrev pub aligned : ℕ → ℕ → Bool
aligned width offset = eqb width 1 || eqb (offset % 2) 0

abbrev pub at_offset : ℕ → ℕ → List ℕ → ℕ → Bool
at_offset width offset t k = cond (aligned width offset) (is_name width offset t k) false

abbrev pub added : ℕ → Offset → Offset
added offset Nowhere = At offset
added offset (At n) = Several
added offset Several = Several

abbrev pub joined : Bool → ℕ → Offset → Offset
joined here offset before = cond here (added offset before) before

-- The offset below an end whose names the first k bytes of a text are.
unfoldable pub sought : ℕ → List ℕ → ℕ → ℕ → Offset
sought width t k zero = Nowhere
sought width t k (suc n) = joined (at_offset width n t k) n (sought width t k n)
