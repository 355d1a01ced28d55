-- Document 02, L6: all that is shown of it here.
use Rattle.claims_editions.specs.History.{ByHistory}
use Rattle.claims_editions.specs.Faults.{FirstFault}
use Rattle.claims_editions.specs.Cases.{Cases}

pub record Claims : Type 0 where
  pub by_history : ByHistory
  pub first_fault : FirstFault
  pub cases : Cases
