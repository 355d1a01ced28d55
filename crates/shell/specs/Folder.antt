-- The folder of a path.
use Rattle.std.specs.Prelude.{cond, List, ℕ, zero, suc, ◌+◌, eqb, length, get_or}

-- Up to the last slash of its first n bytes, with it.
unfoldable pub folder_of : ℕ → List ℕ → ℕ
folder_of zero path = 0
folder_of (suc n) path = cond (eqb (get_or path n 0) 47) (n + 1) (folder_of n path)

abbrev pub folder : List ℕ → ℕ
folder path = folder_of (length path) path
