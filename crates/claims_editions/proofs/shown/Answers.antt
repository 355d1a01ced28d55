use mathlib.Core.Path.{refl}
use Rattle.claims_editions.proofs.History.{by_history}
use Rattle.claims_editions.proofs.Faults.{first_fault}
use Rattle.claims_editions.proofs.Cases.{cases}
use Rattle.claims_editions.proofs.shown.Goals as goal

pub returns : goal.returns
returns c = (
  refl,
  record {
    by_history = by_history;
    first_fault = first_fault;
    cases = cases;
  },
)
