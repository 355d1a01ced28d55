-- A register as a word of a command: four hexadecimal digits, no fewer.
use Rattle.std.specs.Prelude.{cond, Option, Some, None, List, ℕ, ◌+◌, ◌-◌, ◌*◌, eqb, ltb, length, get_or}

-- 0 to 9, A to F, a to f.
abbrev pub hex_value : ℕ → Option ℕ
hex_value b =
    cond (ltb b 48) None
    (cond (ltb b 58) (Some (b - 48))
    (cond (ltb b 65) None
    (cond (ltb b 71) (Some (b - 55))
    (cond (ltb b 97) None
    (cond (ltb b 103) (Some (b - 87)) None)))))

-- A word of four digits, if each is one.
abbrev pub of_digits : Option ℕ → Option ℕ → Option ℕ → Option ℕ → Option ℕ
of_digits (Some a) (Some b) (Some c) (Some d) = Some (a * 4096 + b * 256 + c * 16 + d)
of_digits (Some a) (Some b) (Some c) None = None
of_digits (Some a) (Some b) None d = None
of_digits (Some a) None c d = None
of_digits None b c d = None

abbrev pub register_of : List ℕ → Option ℕ
register_of w =
    cond (eqb (length w) 4)
    (of_digits (hex_value (get_or w 0 0)) (hex_value (get_or w 1 0)) (hex_value (get_or w 2 0)) (hex_value (get_or w 3 0)))
    None
