-- The bytes of a file of marks.
use Rattle.std.specs.Prelude.{List, [], ◌++◌, ℕ, zero, suc, ◌+◌, ◌*◌, get_or}
use Rattle.tool_index.specs.Stored.{mark_bytes}

unfoldable pub file_of : List ℕ → ℕ → List ℕ
file_of lent zero = []
file_of lent (suc i) = file_of lent i ++ mark_bytes (get_or lent (2 * i) 0) (get_or lent (2 * i + 1) 0)
