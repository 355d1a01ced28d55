use mathlib.Core.Path.{refl}
use Rattle.tool_judge.proofs.Laws.{judging}
use Rattle.tool_judge.proofs.claims.shown.Goals as goal

pub returns : goal.returns
returns c = (refl, judging)
