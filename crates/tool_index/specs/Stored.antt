-- Marks as a file keeps them: sixteen bytes a mark, its place and then its resets, big-endian.
use Rattle.std.specs.Prelude.{cond, List, [], ◌∷◌, ℕ, zero, suc, ◌+◌, ◌*◌, ◌/◌, ◌%◌, min, ltb, length, set}
use Rattle.trace.specs.Trace.{word_at}

abbrev pub of_words : ℕ → ℕ → ℕ → ℕ → ℕ
of_words a b c d = a * 281474976710656 + b * 4294967296 + c * 65536 + d

-- The number that starts at place i; 0 where the bytes end before it does.
abbrev pub number_at : List ℕ → ℕ → ℕ
number_at t i =
    cond (ltb (length t) (i + 8)) 0 (of_words (word_at t i) (word_at t (i + 2)) (word_at t (i + 4)) (word_at t (i + 6)))

abbrev pub mark_bytes : ℕ → ℕ → List ℕ
mark_bytes n m =
    n / 72057594037927936 % 256 ∷
    n / 281474976710656 % 256 ∷
    n / 1099511627776 % 256 ∷
    n / 4294967296 % 256 ∷
    n / 16777216 % 256 ∷
    n / 65536 % 256 ∷
    n / 256 % 256 ∷
    n % 256 ∷
    m / 72057594037927936 % 256 ∷
    m / 281474976710656 % 256 ∷
    m / 1099511627776 % 256 ∷
    m / 4294967296 % 256 ∷
    m / 16777216 % 256 ∷
    m / 65536 % 256 ∷
    m / 256 % 256 ∷
    m % 256 ∷
    []

-- The marks that bytes hold and lent numbers have room for.
abbrev pub stored_in : List ℕ → List ℕ → ℕ
stored_in t lent = min (length t / 16) (length lent / 2)

-- Lent numbers with the first so many marks of the bytes; every other number is as it was.
unfoldable pub decoded : List ℕ → List ℕ → ℕ → List ℕ
decoded t lent zero = lent
decoded t lent (suc i) = set (set (decoded t lent i) (2 * i) (number_at t (16 * i))) (2 * i + 1) (number_at t (16 * i + 8))
