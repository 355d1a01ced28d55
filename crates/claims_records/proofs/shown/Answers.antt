use mathlib.Core.Path.{refl}
use Rattle.claims_records.proofs.Records.{claims}
use Rattle.claims_records.proofs.shown.Goals as goal

pub returns : goal.returns
returns c = (refl, claims)
