use Rattle.std.proofs.Common.{◌≤◌}
use Rattle.files.proofs.command.see.Given as goal

abbrev pub invariant-loop-i : goal.invariant-loop-i
invariant-loop-i g l = l.seen.words ≤ l.i
