use Rattle.std.proofs.Common.{◌≡◌, length}
use Rattle.io.specs.Counts.{IsPrefixLen}
use Rattle.cmd_find.proofs.marks.read_all.Given as goal

abbrev pub invariant-loop : goal.invariant-loop
invariant-loop g l = IsPrefixLen l.f.total l.buf × (length l.buf ≡ length l.initial.buf)
