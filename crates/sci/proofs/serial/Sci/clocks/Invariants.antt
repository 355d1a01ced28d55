use Prim.Native.Nat.{◌≤◌}
use mathlib.Core.Path.{◌≡◌}
use Rattle.steps.specs.Iterate.{iterate}
use Rattle.sci.specs.model.Serial.{clocked}
use Rattle.sci.specs.quick.Quiet.{quiet}
use Rattle.sci.proofs.serial.Sci.clocks.Given as goal

abbrev pub invariant-loop-k : goal.invariant-loop-k
invariant-loop-k l = (l.left ≤ l.n) × ((l.k ≡ quiet l.s) × ((l.s.prescaler ≤ 65535) × (iterate l.left (λ s. clocked s l.x) l.s ≡ iterate l.n (λ s. clocked s l.x) l.initial.s)))

abbrev pub decreases-loop-k : goal.decreases-loop-k
decreases-loop-k l = l.left
