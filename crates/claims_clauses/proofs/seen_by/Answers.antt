use mathlib.Core.Path.{refl}
use Rattle.claims_clauses.proofs.seen_by.Goals as goal
use Rattle.claims_clauses.proofs.SeenBy.{seen_clauses}

pub returns : goal.returns
returns c = (refl, seen_clauses)
