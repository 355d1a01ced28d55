use Rattle.std.proofs.Common.{◌≤◌, length}
use Rattle.assemble.proofs.run.send.Given as goal

abbrev pub invariant-loop-k : goal.invariant-loop-k
invariant-loop-k l = l.at ≤ length l.line
