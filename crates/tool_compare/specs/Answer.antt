-- Document 02, L2 and L9: two answers, compared field by field.
use Rattle.std.specs.Prelude.{Bool, true, false, cond, ◌&&◌, List, [], ◌∷◌, ℕ, ◌+◌, ◌*◌, eqb, take, drop}

-- The same bytes.
abbrev pub same : List ℕ → List ℕ → Bool
same [] [] = true
same [] (y ∷ ys) = false
same (x ∷ xs) [] = false
same (x ∷ xs) (y ∷ ys) = eqb x y && same xs ys

-- The weights of the fields in which two answers differ, added up: the first field's, and twice as much for each one after it.
unfoldable pub weighed : ℕ → List ℕ → List ℕ → List ℕ → ℕ
weighed weight [] x y = 0
weighed weight (n ∷ ns) x y =
    cond (same (take n x) (take n y)) 0 weight + weighed (weight * 2) ns (drop n x) (drop n y)

-- A sum of 1, 2, 4 and so on for the differing fields in order.
abbrev pub sum_of : List ℕ → List ℕ → List ℕ → ℕ
sum_of fs x y = weighed 1 fs x y
