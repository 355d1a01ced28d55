-- All that is shown of tallies and reports here. That the words told are those of every clock, and that a report balances, are claims of their own
-- crates.
use Rattle.std.specs.Prelude.{List, ◌++◌, Option, ◌≡◌, ℕ}
use Rattle.reception.specs.Arrival.{figure_of}
use Rattle.reception.specs.Tally.{tally_of, with_arrival}
use Rattle.reception.specs.Examples.{Examples}

-- A tally with what came is that of all the figures.
abbrev pub TallyGoesOn : Type 0
TallyGoesOn = (fs : List ℕ) (a : Option ℕ) → with_arrival (tally_of fs) a ≡ tally_of (fs ++ figure_of a)

pub record Claims : Type 0 where
  pub tally_goes_on : TallyGoesOn
  pub examples : Examples
