use mathlib.Core.Path.{refl}
use Rattle.claims_clauses.proofs.flags_fall.Goals as goal
use Rattle.claims_clauses.proofs.FlagsFall.{flag_clauses}
use Rattle.claims_clauses.proofs.Permission.{permission}
use Rattle.claims_clauses.proofs.Witness.{fall_met}

pub returns : goal.returns
returns c = (refl, flag_clauses, permission, fall_met)
