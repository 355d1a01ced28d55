use mathlib.Core.Path.{◌≡◌}
use Rattle.tool_plan.specs.Check.{each, ranged}
use Rattle.tool_plan.proofs.points.Points.in_ranges.Given as goal

abbrev pub invariant-loop-k : goal.invariant-loop-k
invariant-loop-k l = l.all ≡ each l.k (ranged l.points)
