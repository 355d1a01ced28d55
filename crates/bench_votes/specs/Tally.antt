-- What `bench/vote` adds up: of each triple of samples, in the low three bits of a byte, its vote as a number; modulo 2^32.
use Rattle.std.specs.Prelude.{List, [], ◌∷◌, ℕ, ◌+◌, ◌*◌, ◌%◌, eqb}
use Rattle.steps.specs.Bits.{bit, digit}
use Rattle.sci.specs.model.Bits.{vote}
use Rattle.sci.specs.declared.bits.Voted.{Voted}

abbrev pub number : Voted → ℕ
number v = v.disagreed * 2 + digit v.bit

abbrev pub added : ℕ → Voted → ℕ
added sum v = (sum % 4294967296 + number v) % 4294967296

abbrev pub triple : ℕ → Voted
triple t = vote (eqb (t % 2) 1) (bit 1 t) (bit 2 t)

unfoldable pub tally : ℕ → List ℕ → ℕ
tally sum [] = sum
tally sum (t ∷ ts) = tally (added sum (triple t)) ts
