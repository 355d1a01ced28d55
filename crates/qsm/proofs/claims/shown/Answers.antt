use mathlib.Core.Path.{refl}
use Rattle.qsm.proofs.Requests.{requests}
use Rattle.qsm.proofs.PinClauses.{pins}
use Rattle.qsm.proofs.Stored.{last_input_holds}
use Rattle.qsm.proofs.SeenClauses.{seen}
use Rattle.qsm.proofs.Registers.{registers}
use Rattle.qsm.proofs.Witness.{met}
use Rattle.qsm.proofs.claims.shown.Goals as goal

pub returns : goal.returns
returns c = (
  refl,
  record { requests = requests; pins = pins; last_input_holds = last_input_holds; seen = seen; registers = registers; met = met },
)
