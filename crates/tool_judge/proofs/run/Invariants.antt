use mathlib.Core.Path.{◌≡◌}
use Prim.Native.Nat.{◌-◌}
use lib.ListN.{length}
use Rattle.tool_judge.proofs.Walking.{Going}
use Rattle.tool_judge.proofs.run.Given as goal

abbrev pub invariant-loop-walked : goal.invariant-loop-walked
invariant-loop-walked l =
    Going l.trace l.log l.last l.initial.walked.state l.walked.state l.walked.read l.walked.passed l.walked.records l.walked.verdict l.ours
    × (l.walked.stop ≡ 0)

abbrev pub decreases-loop-walked : goal.decreases-loop-walked
decreases-loop-walked l = length l.trace - l.walked.read
