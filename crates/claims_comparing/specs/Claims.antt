-- Document 02, L2 and L9: all that is shown of them here.
use Rattle.claims_comparing.specs.Numbers.{Numbers}
use Rattle.claims_comparing.specs.Cases.{Cases}

pub record Claims : Type 0 where
  pub numbers : Numbers
  pub cases : Cases
