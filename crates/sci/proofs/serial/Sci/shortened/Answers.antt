use mathlib.Core.Path.{sym, ◌∙◌}
use Rattle.sci.proofs.Rest.{rounds_last}
use Rattle.sci.proofs.serial.Sci.shortened.Goals as goal

pub nonzero_rem-result : goal.nonzero_rem-result
nonzero_rem-result c =
    rw c.scbr.ensures (rounds_last _ _ (sym c.rests.ensures ∙ c.if-rests.true))

pub returns-then-rests : goal.returns-then-rests
returns-then-rests c = rw (c.scbr.ensures, ← c.rests.ensures, c.if-rests.true)

pub returns-else-rests : goal.returns-else-rests
returns-else-rests c = rw (← c.rests.ensures, c.if-rests.false)
