-- Document 02, L14: the line of the account, `taken 3, lost 2, waiting 1`.
use Rattle.std.specs.Prelude.{Bool, List, [], ◌∷◌, ◌++◌, ℕ}
use Rattle.steps.specs.Bits.{digit}
use Rattle.text.specs.Digits.{ascii, decimal}

-- At most one word waits.
abbrev pub account_line : ℕ → ℕ → Bool → List ℕ
account_line taken lost waiting =
    ascii "taken " ++ decimal 10 taken ++ ascii ", lost " ++ decimal 10 lost ++ ascii ", waiting " ++ decimal 1 (digit waiting) ++ (10 ∷ [])
