use Prim.Native.Nat.{◌-◌}
use lib.ListN.{length}
use Rattle.tool_index.specs.Walk.{Sound}
use Rattle.tool_index.proofs.Walking.{Walking}
use Rattle.tool_index.proofs.walk.walk.Given as goal

abbrev pub invariant-loop-at : goal.invariant-loop-at
invariant-loop-at l = Sound l.initial.at (length l.rest) × Walking l.initial.at l.rest l.until l.at l.read

abbrev pub decreases-loop-at : goal.decreases-loop-at
decreases-loop-at l = length l.rest - l.read
