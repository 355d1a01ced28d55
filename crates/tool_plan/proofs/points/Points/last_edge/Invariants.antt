use mathlib.Core.Path.{◌≡◌}
use Prim.Native.Nat.{◌+◌}
use lib.ListN.{get_or}
use Rattle.qspi.specs.claims.Run.{last_clock_of}
use Rattle.tool_plan.specs.Check.{clock_before}
use Rattle.tool_plan.proofs.points.Points.last_edge.Given as goal

abbrev pub invariant-loop-k : goal.invariant-loop-k
invariant-loop-k l = l.clocks ≡ clock_before l.plan.spcr0 l.plan.spcr1 l.plan.commands l.k + last_clock_of l.plan.spcr0 l.plan.spcr1 (get_or l.plan.commands l.last 0)
