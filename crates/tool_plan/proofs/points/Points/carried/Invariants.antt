use mathlib.Core.Path.{◌≡◌}
use Rattle.tool_plan.specs.Check.{each, carried}
use Rattle.tool_plan.proofs.points.Points.carried.Given as goal

abbrev pub invariant-loop-k : goal.invariant-loop-k
invariant-loop-k l = l.all ≡ each l.k (carried l.points l.plan)
