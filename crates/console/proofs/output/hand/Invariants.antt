use Rattle.std.proofs.Common.{length, ◌≤◌}
use Rattle.console.proofs.output.hand.Given as goal

abbrev pub invariant-loop : goal.invariant-loop
invariant-loop l = l.at ≤ length l.bytes
