use Rattle.std.proofs.Common.{◌≡◌, ◌≤◌, length, drop}
use Rattle.tool_assemble.specs.Scan.{scan_from}
use Rattle.tool_assemble.proofs.scan.scan.Given as goal

abbrev pub invariant-loop-c : goal.invariant-loop-c
invariant-loop-c l =
    (l.at ≤ length l.text) × (scan_from l.pattern l.text (record { first = 0; second = 0; third = 0 }) ≡ scan_from (drop l.c-index l.pattern) (drop l.at l.text) l.numbers)
