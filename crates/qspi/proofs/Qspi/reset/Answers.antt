use mathlib.Core.Path.{refl}
use Rattle.qspi.specs.model.Registers.{reset}
use Rattle.qspi.proofs.Qspi.reset.Goals as goal

pub returns : goal.returns
unfolding reset
returns c = refl
