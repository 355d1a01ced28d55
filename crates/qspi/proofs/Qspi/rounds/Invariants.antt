use mathlib.Core.Path.{◌≡◌}
use Prim.Native.Nat.{◌-◌, ◌≤◌}
use Rattle.steps.specs.Iterate.{iterate}
use Rattle.qspi.specs.model.Queue.{clock}
use Rattle.qspi.proofs.Qspi.rounds.Given as goal

abbrev pub invariant-loop-left : goal.invariant-loop-left
invariant-loop-left l = (l.left ≤ l.saved_left)
    × (iterate l.left (λ r. clock r l.pins) l.q ≡ iterate l.n (λ r. clock r l.pins) l.initial.q)
    × (iterate (l.saved_left - l.left) (λ r. clock r l.pins) l.saved ≡ l.q)

abbrev pub decreases-loop-left : goal.decreases-loop-left
decreases-loop-left l = l.left
