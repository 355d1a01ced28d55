-- A line of text, made from left to right.
use Rattle.std.specs.Prelude.{◌≡◌, cond, List, [], ◌∷◌, ◌++◌, ℕ, ◌+◌, ◌-◌, ◌≤◌, ltb, length, set, replicate}
use Rattle.text.specs.declared.line.Line.{Line}

-- The bytes that a line has room for.
abbrev pub room : ℕ
room = 184

-- The line whose text is t: its bytes, and zeros in the rest of the room.
abbrev pub line_of : List ℕ → Line
line_of t = record { bytes = t ++ replicate (room - length t) 0; length = length t }

-- A line that is the text t, whole.
pub record Shows (l : Line) (t : List ℕ) : Type 0 where
  pub line : l ≡ line_of t
  pub fits : length t ≤ room

abbrev pub empty : Line
empty = record { bytes = replicate room 0; length = 0 }

-- A line with one byte more, or as it is where it is full.
unfoldable pub put : Line → ℕ → Line
put l b =
    cond (ltb l.length room) (record { bytes = set l.bytes l.length b; length = l.length + 1 }) l

-- A line with a text more.
unfoldable pub puts : Line → List ℕ → Line
puts l [] = l
puts l (b ∷ bs) = puts (put l b) bs
