use mathlib.Core.Path.{◌≡◌}
use Prim.Native.Nat.{◌-◌, ◌≤◌}
use lib.ListN.{length, drop}
use Rattle.tool_editions.specs.Records.{first}
use Rattle.tool_editions.specs.Rules.{withdrawn}
use Rattle.tool_editions.proofs.contents.withdrawn.Given as goal

abbrev pub invariant-loop : goal.invariant-loop
invariant-loop l =
    (l.at ≤ length l.v) × (withdrawn l.number (first l.count l.v) ≡ withdrawn l.number (first (l.count - l.counter) (drop l.at l.v)))
