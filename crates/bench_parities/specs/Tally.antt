-- What `bench/parity` adds up: the words that have an odd number of ones.
use Rattle.std.specs.Prelude.{List, [], ◌∷◌, ℕ, ◌+◌}
use Rattle.steps.specs.Bits.{digit}
use Rattle.sci.specs.model.Bits.{odd}

unfoldable pub tally : ℕ → List ℕ → ℕ
tally sum [] = sum
tally sum (w ∷ ws) = tally (sum + digit (odd w)) ws
