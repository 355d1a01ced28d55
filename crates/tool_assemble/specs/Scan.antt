-- A pattern held against a text: bytes, blanks and numbers, from left to right.
use Rattle.std.specs.Prelude.{Bool, false, cond, ◌||◌, Option, Some, None, Result, Ok, Err, List, [], ◌∷◌, ℕ, suc, ◌+◌, ◌-◌, ◌*◌, eqb, ltb, length, drop}
use Rattle.tool_assemble.specs.declared.scan.Figures.{Figures}
use Rattle.tool_assemble.specs.declared.scan.Taken.{Taken}
use Rattle.tool_assemble.specs.declared.scan.Numbers.{Numbers}
use Rattle.tool_assemble.specs.declared.scan.Found.{Found}
use Rattle.tool_assemble.specs.declared.item.Wrong.{Wrong}
use Rattle.tool_assemble.specs.declared.item.Fault.TheVariants.{NotUnderstood}

-- A space, a tab or a carriage return.
abbrev pub is_blank : ℕ → Bool
is_blank b = eqb b 32 || eqb b 9 || eqb b 13

-- The blanks that a text begins with, behind so many.
unfoldable pub blanks_from : ℕ → List ℕ → ℕ
blanks_from n [] = n
blanks_from n (b ∷ t) = cond (is_blank b) (blanks_from (suc n) t) n

abbrev pub blanks : List ℕ → ℕ
blanks t = blanks_from 0 t

-- 0 to 9, A to F, a to f; 16 for what is no digit.
abbrev pub digit_of : ℕ → ℕ
digit_of b =
    cond (ltb b 48) 16
    (cond (ltb b 58) (b - 48)
    (cond (ltb b 65) 16
    (cond (ltb b 71) (b - 55)
    (cond (ltb b 97) 16
    (cond (ltb b 103) (b - 87) 16)))))

-- The fields: 1 pins, 2 an offset, 3 a value, in hexadecimal; 4 RXD, 5 a width, 6 clocks, 7 the clocks of a long hold, a rate or a
-- frequency, in decimal. The first number that is too big for each.
abbrev pub limit : ℕ → ℕ
limit c =
    cond (eqb c 1) 256
    (cond (eqb c 2) 65536
    (cond (eqb c 4) 2
    (cond (eqb c 5) 128
    (cond (eqb c 6) 65536 4294967296))))

-- Whether a digit belongs to a number of a base that is to stay below a limit.
unfoldable pub takes : ℕ → ℕ → ℕ → ℕ → Bool
takes base most n b = cond (ltb (digit_of b) base) (ltb (n * base + digit_of b) most) false

-- The number that a text begins with, behind a number and so many digits.
unfoldable pub digits : ℕ → ℕ → ℕ → ℕ → List ℕ → Figures
digits base most n k [] = record { value = n; length = k }
digits base most n k (b ∷ t) =
    cond (takes base most n b) (digits base most (n * base + digit_of b) (suc k) t) (record { value = n; length = k })

-- What is no number, of so many bytes.
abbrev pub bytes : ℕ → Option Taken
bytes n = Some (record { length = n; value = None })

-- Figures with so many bytes in front; no digits are no number.
abbrev pub number : ℕ → Figures → Option Taken
number front d = cond (eqb d.length 0) None (Some (record { length = d.length + front; value = Some d.value }))

-- A number in the base of its field, or one that is marked: $ hexadecimal, & decimal.
unfoldable pub numeral : ℕ → List ℕ → Option Taken
numeral c [] = None
numeral c (b ∷ t) =
    cond (eqb b 36) (number 1 (digits 16 (limit c) 0 0 t))
    (cond (eqb b 38) (number 1 (digits 10 (limit c) 0 0 t))
    (cond (ltb c 4) (number 0 (digits 16 (limit c) 0 0 (b ∷ t))) (number 0 (digits 10 (limit c) 0 0 (b ∷ t)))))

unfoldable pub literal : ℕ → List ℕ → Option Taken
literal c [] = None
literal c (b ∷ t) = cond (eqb b c) (bytes 1) None

-- One blank or more.
abbrev pub gap : List ℕ → Option Taken
gap t = cond (eqb (blanks t) 0) None (bytes (blanks t))

-- Behind so many blanks, a comment.
abbrev pub commented : ℕ → ℕ → Option Taken
commented b n = cond (eqb b 35) (bytes n) None

-- The end of the line, or a comment.
unfoldable pub closed : ℕ → List ℕ → Option Taken
closed n [] = bytes n
closed n (b ∷ t) = commented b n

-- The end of the line, with blanks and a comment before it or without.
abbrev pub ending : List ℕ → Option Taken
ending t = closed (blanks t) (drop (blanks t) t)

-- An element of a pattern: below 31 a number of that field, 31 the end of the line, 32 blanks, else that byte.
unfoldable pub element : ℕ → List ℕ → Option Taken
element c t =
    cond (ltb c 31) (numeral c t)
    (cond (eqb c 31) (ending t)
    (cond (eqb c 32) (gap t) (literal c t)))

-- The last three numbers.
abbrev pub pushed : Numbers → Option ℕ → Numbers
pushed n None = n
pushed n (Some v) = record { first = n.second; second = n.third; third = v }

-- What an element took, and then the rest of the pattern.
abbrev pub onward : Option Taken → (List ℕ → Numbers → Result Found Wrong) → List ℕ → Numbers → Result Found Wrong
onward None more t n = Err (record { fault = NotUnderstood; left = length t })
onward (Some e) more t n = more (drop e.length t) (pushed n e.value)

unfoldable pub scan_from : List ℕ → List ℕ → Numbers → Result Found Wrong
scan_from [] t n = Ok (record { left = length t; numbers = n })
scan_from (c ∷ cs) t n = onward (element c t) (scan_from cs) t n

-- A text held against a pattern: the bytes left behind it and the numbers, or the bytes left from where it is no more so.
abbrev pub scan : List ℕ → List ℕ → Result Found Wrong
scan pattern t = scan_from pattern t (record { first = 0; second = 0; third = 0 })
