use Rattle.std.proofs.Common.{◌≡◌}
use Rattle.tool_assemble.specs.Names.{sought}
use Rattle.tool_assemble.proofs.names.sought.Given as goal

abbrev pub invariant-loop-n : goal.invariant-loop-n
invariant-loop-n l = l.found ≡ sought l.width l.text l.k l.n
