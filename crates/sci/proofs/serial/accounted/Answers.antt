use mathlib.Core.Path.{sym, ap, ◌∙◌}
use mathlib.Core.Bool.{Bool, ◌&&◌}
use Rattle.sci.proofs.Counts.{counts, stays}
use Rattle.sci.proofs.serial.accounted.Goals as goal

pub returns-then-re-ends : goal.returns-then-re-ends
returns-then-re-ends c =
    let a : _ = c.args in
    rw (c.counting.ensures, c.outcome.ensures)
    (counts a.re a.account a.receiver a.status a.sccr1 a.x
    (ap (λ (ended : Bool). a.re && ended) (sym c.ends.ensures) ∙ c.if-re-ends.true))

pub returns-else-re-ends : goal.returns-else-re-ends
returns-else-re-ends c =
    let a : _ = c.args in
    stays a.re a.account a.receiver a.status a.sccr1 a.x
    (ap (λ (ended : Bool). a.re && ended) (sym c.ends.ensures) ∙ c.if-re-ends.false)
