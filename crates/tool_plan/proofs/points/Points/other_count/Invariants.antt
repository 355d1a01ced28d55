use mathlib.Core.Path.{◌≡◌}
use Rattle.tool_plan.specs.Quickest.{other_count}
use Rattle.tool_plan.proofs.points.Points.other_count.Given as goal

abbrev pub invariant-loop-k : goal.invariant-loop-k
invariant-loop-k l = l.other ≡ other_count l.points.bits l.k
