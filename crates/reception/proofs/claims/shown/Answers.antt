use mathlib.Core.Path.{refl}
use Rattle.reception.proofs.Tallies.{tally_goes_on}
use Rattle.reception.proofs.Examples.{examples}
use Rattle.reception.proofs.claims.shown.Goals as goal

pub returns : goal.returns
returns c = (refl, record { tally_goes_on = tally_goes_on; examples = examples })
