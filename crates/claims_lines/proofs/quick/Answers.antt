use mathlib.Core.Path.{refl}
use Rattle.claims_lines.proofs.Quickly.{none_lost, quick_enough, such}
use Rattle.claims_lines.proofs.quick.Goals as goal

pub returns : goal.returns
returns c = (refl, record { none_lost = none_lost; quick_enough = quick_enough; such = such })
