-- The clock that a word names, in Hz, from 1 on; none where the word names none.
use Rattle.std.specs.Prelude.{cond, Option, Some, None, ℕ, ◌^◌, eqb, ltb}

abbrev pub rate : Option ℕ → Option ℕ
rate (Some k) = cond (eqb k 0) None (cond (ltb k (2 ^ 32)) (Some k) None)
rate None = None
