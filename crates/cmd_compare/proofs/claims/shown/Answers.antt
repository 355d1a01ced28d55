use Rattle.std.proofs.Common.{refl}
use Rattle.cmd_compare.proofs.Whole.{claims}
use Rattle.cmd_compare.proofs.claims.shown.Goals as goal

pub returns : goal.returns
returns c = (refl, claims)
