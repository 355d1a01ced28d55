use mathlib.Core.Path.{◌≡◌}
use Prim.Native.Nat.{◌≤◌}
use lib.ListN.{length, drop}
use Rattle.tool_editions.specs.Records.{first}
use Rattle.tool_editions.specs.Rules.{any_of, number_in, found_in, latest_from, latest}
use Rattle.tool_editions.proofs.contents.latest.Given as goal

abbrev pub invariant-loop-left : goal.invariant-loop-left
invariant-loop-left l =
    (l.at ≤ length l.v)
    × (latest (any_of l.wanted) (number_in l.wanted) (first l.count l.v)
    ≡ latest_from (found_in l.found) (any_of l.wanted) (number_in l.wanted) (first l.left (drop l.at l.v)))
