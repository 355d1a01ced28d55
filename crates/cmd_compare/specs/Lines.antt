-- The differing answers of two pieces as text: a line for each field that differs.
use Rattle.std.specs.Prelude.{Bool, cond, List, [], ◌∷◌, ◌++◌, ℕ, zero, suc, ◌+◌, ◌*◌, ◌/◌, ◌%◌, eqb, get_or, drop, take}
use Rattle.answers.specs.Answer.{stride_of}
use Rattle.answers.specs.Field.{in_their_order, field_number}
use Rattle.answers.specs.declared.Field.{Field}
use Rattle.files.specs.Pieces.{counted}
use Rattle.text.specs.Difference.{difference_line}
use Rattle.text.specs.Log.{logged_at}
use Rattle.text.specs.declared.log.Logged.{Logged}

-- A sum of 1, 2, 4 and so on names a field.
abbrev pub differs : ℕ → Field → Bool
differs sum f = eqb (sum / field_number f % 2) 1

-- The line of a field of answer n, x in the first log and y in the second, if it differs.
unfoldable pub field_line : ℕ → ℕ → Logged → Logged → Field → List ℕ
field_line n sum x y f = cond (differs sum f) (difference_line n f x y) []

-- Those of some fields.
abbrev pub answer_lines : ℕ → ℕ → Logged → Logged → List Field → List ℕ
answer_lines n sum x y [] = []
answer_lines n sum x y (f ∷ fs) = field_line n sum x y f ++ answer_lines n sum x y fs

abbrev pub first_half : List Field
first_half = take 4 in_their_order

abbrev pub second_half : List Field
second_half = drop 4 in_their_order

-- Answer k of two pieces of a kind, numbered on from the pieces' first.
abbrev pub pair_lines : ℕ → ℕ → List ℕ → List ℕ → ℕ → ℕ → List ℕ
pair_lines kind first a b k sum =
    answer_lines (counted first k) sum (logged_at (drop (k * stride_of kind) a)) (logged_at (drop (k * stride_of kind) b)) in_their_order

-- The first so many pairs of a list: an answer's number and its sum.
unfoldable pub list_lines : ℕ → ℕ → List ℕ → List ℕ → List ℕ → ℕ → List ℕ
list_lines kind first a b list zero = []
list_lines kind first a b list (suc n) =
    list_lines kind first a b list n ++ pair_lines kind first a b (get_or list (2 * n) 0) (get_or list (2 * n + 1) 0)
