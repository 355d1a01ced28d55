use Prim.Native.Nat.{◌-◌}
use lib.ListN.{length}
use Rattle.tool_editions.proofs.Accepting.{Going}
use Rattle.tool_editions.proofs.contents.read.Given as goal

abbrev pub invariant-loop-at : goal.invariant-loop-at
invariant-loop-at l = Going l.v l.last l.count l.at

abbrev pub decreases-loop-at : goal.decreases-loop-at
decreases-loop-at l = length l.v - l.at
