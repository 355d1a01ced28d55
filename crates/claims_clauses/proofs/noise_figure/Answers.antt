use mathlib.Core.Path.{refl}
use Rattle.claims_clauses.proofs.noise_figure.Goals as goal
use Rattle.claims_clauses.proofs.Noise.{noise_clauses}
use Rattle.claims_clauses.proofs.Witness.{noise_met}

pub returns : goal.returns
returns c = (refl, noise_clauses, noise_met)
