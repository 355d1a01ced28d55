use mathlib.Core.Path.{◌≡◌}
use lib.ListN.{length}
use Rattle.tool_compare.specs.Compare.{differing}
use Rattle.tool_compare.proofs.Differing.{Passing}
use Rattle.tool_compare.proofs.differences.Given as goal

abbrev pub invariant-loop-i : goal.invariant-loop-i
invariant-loop-i l = Passing l.bytes l.a l.b l.n l.at l.i × (l.count ≡ length (differing l.bytes l.a l.b l.i))
