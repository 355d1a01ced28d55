use mathlib.Core.Path.{◌≡◌}
use Prim.Native.Nat.{◌%◌, ◌≤◌, ◌<◌}
use Rattle.steps.specs.Iterate.{iterate}
use Rattle.qspi.specs.quick.Falls.{edges_fallen}
use Rattle.qspi.specs.model.Parts.{with_entry}
use Rattle.qspi.specs.model.Queue.{clock}
use Rattle.qspi.specs.quick.Quiet.{until_edge}
use Rattle.qspi.proofs.Qspi.played.Given as goal

abbrev pub invariant-loop-until : goal.invariant-loop-until
invariant-loop-until l = (l.left ≤ l.initial.left)
    × (l.e.edges % 32 ≤ l.j)
    × (l.j < 32)
    × (l.until ≡ until_edge (edges_fallen l.spcr0 l.j l.miso l.e))
    × (iterate l.left (λ r. clock r l.pins) (with_entry l.q (edges_fallen l.spcr0 l.j l.miso l.e)) ≡ iterate l.initial.left (λ r. clock r l.pins) l.q)

abbrev pub decreases-loop-until : goal.decreases-loop-until
decreases-loop-until l = l.left

abbrev pub invariant-loop-left : goal.invariant-loop-left
invariant-loop-left l = (l.left ≤ l.n) × (iterate l.left (λ r. clock r l.pins) l.q ≡ iterate l.n (λ r. clock r l.pins) l.initial.q)

abbrev pub decreases-loop-left : goal.decreases-loop-left
decreases-loop-left l = l.left
