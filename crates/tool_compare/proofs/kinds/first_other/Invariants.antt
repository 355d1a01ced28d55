use Rattle.tool_compare.proofs.Beginning.{Looking}
use Rattle.tool_compare.proofs.kinds.first_other.Given as goal

abbrev pub invariant-loop-i : goal.invariant-loop-i
invariant-loop-i l = Looking l.kind l.log l.n l.is_known l.bytes l.at l.i
