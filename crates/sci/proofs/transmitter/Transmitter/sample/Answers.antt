use mathlib.Core.Path.{sym, ◌∙◌}
use Rattle.sci.proofs.Plain.{shifts}
use Rattle.sci.proofs.transmitter.Transmitter.sample.Goals as goal

pub returns-else-turns : goal.returns-else-turns
returns-else-turns c = rw c.shifted.ensures (shifts _ _ _ (sym c.turns.ensures ∙ c.if-turns.false))
