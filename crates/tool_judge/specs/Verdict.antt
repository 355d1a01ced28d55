-- Document 02, L12: a log beside the answers that are right, and the first answer in which it is wrong.
use Rattle.std.specs.Prelude.{Bool, cond, Result, Ok, Err, ◌&&◌, ◌||◌, List, [], ◌∷◌, ℕ, suc, ◌+◌, ◌*◌, ◌/◌, ◌%◌, eqb, ltb, length}
use Rattle.answers.specs.Field.{field_at}
use Rattle.trace.specs.Trace.{answer_length}
use Rattle.answers.specs.declared.Field.{Field}
use Rattle.answers.specs.declared.Field.TheVariants.{Kind}
use Rattle.tool_judge.specs.declared.Wrong.{Wrong}

-- A log is accepted, or wrong in a field of an answer, by its number.
abbrev pub Verdict : Type 0
Verdict = Result (Unit {0}) Wrong

abbrev pub accept : Verdict
accept = Ok tt

abbrev pub reject : ℕ → Field → Verdict
reject k f = Err (record { answer = k; field = f })

-- With how many bytes two lists begin alike.
unfoldable pub alike : List ℕ → List ℕ → ℕ
alike [] ys = 0
alike (x ∷ xs) [] = 0
alike (x ∷ xs) (y ∷ ys) = cond (eqb x y) (suc (alike xs ys)) 0

-- Alike to the ends of both.
abbrev pub equal : List ℕ → List ℕ → Bool
equal xs ys = eqb (alike xs ys) (length xs) && eqb (alike xs ys) (length ys)

-- The answer that has the first byte in which two logs differ.
abbrev pub first_wrong : List ℕ → List ℕ → ℕ
first_wrong right log = alike right log / answer_length

-- Answer k of a log is missing or cut.
abbrev pub short : List ℕ → ℕ → Bool
short log k = ltb (length log) (answer_length * suc k)

-- The field of that byte; the kind where the answer is missing, cut or surplus.
abbrev pub wrong_in : List ℕ → List ℕ → ℕ → Field
wrong_in right log k = cond (short right k || short log k) Kind (field_at (alike right log % answer_length))

unfoldable pub verdict : List ℕ → List ℕ → Verdict
verdict right log =
    cond (equal right log) accept (reject (first_wrong right log) (wrong_in right log (first_wrong right log)))

-- A verdict on answers that are numbered on from n, and one that stands before another.
abbrev pub numbered : ℕ → Verdict → Verdict
numbered n (Ok x) = accept
numbered n (Err w) = reject (n + w.answer) w.field

abbrev pub before : Verdict → Verdict → Verdict
before (Ok x) w = w
before (Err v) w = Err v
