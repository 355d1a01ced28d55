use mathlib.Core.Path.{refl}
use Rattle.drivers.proofs.Lawful as lawful
use Rattle.drivers.proofs.Witness.{met}
use Rattle.drivers.proofs.claims.shown.Goals as goal

pub returns : goal.returns
returns c = (refl, lawful.laws, met)
