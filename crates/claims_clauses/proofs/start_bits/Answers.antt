use mathlib.Core.Path.{refl}
use Rattle.claims_clauses.proofs.start_bits.Goals as goal
use Rattle.claims_clauses.proofs.Starts.{start_clauses}
use Rattle.claims_clauses.proofs.Off.{while_off}

pub returns : goal.returns
returns c = (refl, start_clauses, while_off)
