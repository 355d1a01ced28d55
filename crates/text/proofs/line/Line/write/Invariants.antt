use Rattle.std.proofs.Common.{◌≡◌, take}
use Rattle.text.specs.Line.{puts}
use Rattle.text.proofs.line.Line.write.Given as goal

abbrev pub invariant-loop-b : goal.invariant-loop-b
invariant-loop-b l = l.line ≡ puts l.initial.line (take l.b-index l.text)
