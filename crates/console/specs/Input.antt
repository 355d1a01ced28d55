-- An input read piece by piece: what is left of a piece stands before what comes.
use Rattle.std.specs.Prelude.{◌≡◌, List, ℕ, ◌≤◌, take, drop}
use Rattle.files.specs.Pieces.{left, counted}
use Rattle.console.specs.declared.input.Source.{Source}

-- The bytes from a place on are left, at the start of the buffer.
abbrev pub Keeps : Source → List ℕ → ℕ → List ℕ → Type 0
Keeps s buf at buf' = take (left buf at s.total) buf' ≡ take (left buf at s.total) (drop at buf)

-- Which bytes come behind them, and when the input ends, is the system's.
pub record Reads (s : Source) (buf : List ℕ) (at : ℕ) (s' : Source) (buf' : List ℕ) : Type 0 where
  pub kept : Keeps s buf at buf'
  pub least : left buf at s.total ≤ s'.total
  pub place : s'.place ≡ counted s.place at
