use mathlib.Core.Path.{sym, ◌∙◌}
use Rattle.sci.proofs.Plain.{passes}
use Rattle.sci.proofs.receiver.Receiver.sample.Goals as goal

pub returns-then-plain : goal.returns-then-plain
returns-then-plain c =
    rw (c.passed.ensures, c.m-m.ensures)
    (passes _ _ _ _ (rw c.m-m.ensures at (sym c.plain.ensures ∙ c.if-plain.true)))
