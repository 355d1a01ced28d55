-- A file of marks: sixteen bytes a mark, and no more marks than an index has.
use Rattle.std.specs.Prelude.{Bool, true, false, ℕ, ◌%◌, eqb}

-- So many bytes, where they are all that the file has.
abbrev pub are_marks : ℕ → Bool → Bool
are_marks bytes true = eqb (bytes % 16) 0
are_marks bytes false = false
