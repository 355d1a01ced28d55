use mathlib.Core.Path.{◌≡◌}
use Prim.Native.Nat.{◌+◌}
use lib.ListN.{drop}
use Rattle.tool_judge.specs.Verdict.{alike}
use Rattle.tool_judge.proofs.alike.Given as goal

abbrev pub invariant-loop-i : goal.invariant-loop-i
invariant-loop-i l = alike l.x l.y ≡ l.i + alike (drop l.i l.x) (drop l.i l.y)
