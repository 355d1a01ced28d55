use Rattle.std.proofs.Common.{◌≡◌, drop}
use Rattle.tool_assemble.specs.Scan.{blanks_from}
use Rattle.tool_assemble.proofs.scan.blanks.Given as goal

abbrev pub invariant-loop-i : goal.invariant-loop-i
invariant-loop-i l = blanks_from 0 l.text ≡ blanks_from l.i (drop l.i l.text)
