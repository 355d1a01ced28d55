-- Document 01, Receiver and Transmitter: the vote over three samples, and parity.
use Rattle.std.specs.Prelude.{Bool, not, ◌&&◌, ◌||◌, ℕ, ◌+◌, ◌%◌, eqb}
use Rattle.std.specs.Bool.{beq}
use Rattle.std.specs.Int.Count.{ones}
use Rattle.steps.specs.Bits.{digit}
use Rattle.sci.specs.declared.bits.Voted.{Voted}

-- The majority of three samples, and how many of them are unlike it.
abbrev pub majority : Bool → Bool → Bool → Bool
majority a b c = (a && b) || (a && c) || (b && c)

abbrev pub unlike : Bool → Bool → ℕ
unlike bit x = digit (not (beq bit x))

abbrev pub disagreed : Bool → Bool → Bool → ℕ
disagreed a b c = unlike (majority a b c) a + unlike (majority a b c) b + unlike (majority a b c) c

abbrev pub vote : Bool → Bool → Bool → Voted
vote a b c = record { bit = majority a b c; disagreed = disagreed a b c }

-- The ones among three samples.
abbrev pub ones_of : Bool → Bool → Bool → ℕ
ones_of a b c = digit a + digit b + digit c

-- An odd number of ones.
abbrev pub odd : ℕ → Bool
odd w = eqb (ones w % 2) 1

-- PT=0 is even: a word has wrong parity, or wants a one for its parity bit, where its number of ones is odd; PT=1 turns it round.
abbrev pub parity_bit : Bool → ℕ → Bool
parity_bit pt w = not (beq (odd w) pt)
