-- A number from its decimal digits.
use Rattle.std.specs.Prelude.{Bool, false, cond, Option, Some, None, List, [], ◌∷◌, ℕ, ◌+◌, ◌-◌, ◌*◌, ◌^◌, ltb}

abbrev pub is_digit : ℕ → Bool
is_digit b = cond (ltb b 48) false (ltb b 58)

-- A number with a digit more, if it stays below 2 ^ 64.
abbrev pub more : ℕ → ℕ → Option ℕ
more n b =
    cond (is_digit b) (cond (ltb (n * 10 + (b - 48)) (2 ^ 64)) (Some (n * 10 + (b - 48))) None) None

unfoldable pub next : Option ℕ → ℕ → Option ℕ
next (Some n) b = more n b
next None b = None

unfoldable pub after : Option ℕ → List ℕ → Option ℕ
after n [] = n
after n (b ∷ t) = after (next n b) t

-- A word as a number: one digit or more, and nothing else.
unfoldable pub number_of : List ℕ → Option ℕ
number_of [] = None
number_of (b ∷ t) = after (Some 0) (b ∷ t)
