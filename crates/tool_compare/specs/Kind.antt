-- Document 02, L9: the kind of two logs. Each answer begins with it.
use Rattle.std.specs.Prelude.{Bool, cond, ◌&&◌, List, ℕ, zero, suc, ◌+◌, ◌-◌, ◌*◌, ◌/◌, eqb, ltb, length, get_or}
use Rattle.answers.specs.Answer.{plain, known_kind, stride_of}

-- The first byte of the first log that is not empty. Two empty ones have no answer, and are taken for logs of kind 10.
abbrev pub kind_of : List ℕ → List ℕ → ℕ
kind_of a b = cond (eqb (length a) 0) (cond (eqb (length b) 0) plain (get_or b 0 0)) (get_or a 0 0)

-- The answers of a log, a cut last one too.
abbrev pub begun : ℕ → List ℕ → ℕ
begun bytes log = (length log + (bytes - 1)) / bytes

-- Whether answer k begins with the kind, and that is one of the two.
abbrev pub begins : ℕ → List ℕ → ℕ → Bool
begins kind log k = known_kind kind && eqb (get_or log (k * stride_of kind) 0) kind

-- The number of the first among n answers that does not; n if there is none.
unfoldable pub first_other : ℕ → List ℕ → ℕ → ℕ
first_other kind log zero = 0
first_other kind log (suc n) =
    cond (ltb (first_other kind log n) n) (first_other kind log n) (cond (begins kind log n) (suc n) n)

-- A log with an answer that does not.
abbrev pub mixed : ℕ → List ℕ → Bool
mixed kind log = ltb (first_other kind log (begun (stride_of kind) log)) (begun (stride_of kind) log)
