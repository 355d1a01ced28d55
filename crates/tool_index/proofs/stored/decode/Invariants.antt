use mathlib.Core.Path.{◌≡◌}
use Rattle.tool_index.specs.Stored.{stored_in, decoded}
use Rattle.tool_index.proofs.stored.decode.Given as goal

abbrev pub invariant-loop-i : goal.invariant-loop-i
invariant-loop-i l = (l.n ≡ stored_in l.bytes l.initial.lent) × (l.lent ≡ decoded l.bytes l.initial.lent l.i)
