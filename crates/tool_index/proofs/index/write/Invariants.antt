use Rattle.tool_index.proofs.Marking.{Marking}
use Rattle.tool_index.proofs.index.write.Given as goal

abbrev pub invariant-loop-j : goal.invariant-loop-j
invariant-loop-j l = Marking l.initial.at l.rest l.initial.lent l.count l.fresh l.lent l.at l.read l.j
