use Rattle.std.proofs.Common.{◌≡◌, ◌<◌, drop}
use Rattle.tool_assemble.specs.Scan.{digits}
use Rattle.tool_assemble.proofs.figures.digits.Given as goal

abbrev pub invariant-loop-length : goal.invariant-loop-length
invariant-loop-length l = (l.value < 4294967296) × (digits l.base l.most 0 0 l.text ≡ digits l.base l.most l.value l.length (drop l.length l.text))
