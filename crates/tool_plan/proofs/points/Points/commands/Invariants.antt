use mathlib.Core.Path.{◌≡◌}
use Rattle.tool_plan.specs.Quickest.{commands_of}
use Rattle.tool_plan.proofs.points.Points.commands.Given as goal

abbrev pub invariant-loop-k : goal.invariant-loop-k
invariant-loop-k l = l.commands ≡ commands_of l.points.selects l.points.bits l.k
