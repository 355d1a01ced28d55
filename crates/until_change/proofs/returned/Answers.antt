use mathlib.Core.Bool.{false≢true}
use mathlib.Core.Path.{sym, ◌∙◌}
use Rattle.until_change.proofs.returned.Goals as goal

pub returns-then-serial_still : goal.returns-then-serial_still
returns-then-serial_still c = λ yes. (sym c.serial_still.ensures ∙ c.if-serial_still.true, c.same.ensures.0 yes)

pub returns-else-serial_still : goal.returns-else-serial_still
returns-else-serial_still c = λ no. absurd (false≢true no)
