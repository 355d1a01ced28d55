use mathlib.Core.Path.{refl}
use Rattle.cmd_find.proofs.Pieces.{in_pieces}
use Rattle.cmd_find.proofs.claims.shown.Goals as goal

pub returns : goal.returns
returns c = (refl, record { in_pieces = in_pieces })
