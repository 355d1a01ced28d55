use Rattle.tool_compare.proofs.Summing.{Summing}
use Rattle.tool_compare.proofs.sum.Given as goal

abbrev pub invariant-loop-f : goal.invariant-loop-f
invariant-loop-f l = Summing l.n l.x l.y l.sum l.weight l.start l.f
