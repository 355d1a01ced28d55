-- Document 02, L13: all that is shown of it here.
use Rattle.claims_index.specs.Marks.{Builds, Refused, NotRefused, Limit, Finds}
use Rattle.claims_index.specs.Cases.{Cases}

pub record Claims : Type 0 where
  pub builds : Builds
  pub refused : Refused
  pub not_refused : NotRefused
  pub limit : Limit
  pub finds : Finds
  pub cases : Cases
