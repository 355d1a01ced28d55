use Rattle.std.proofs.Common.{◌≡◌, drop}
use Rattle.tool_assemble.specs.Names.{name_from}
use Rattle.tool_assemble.proofs.names.name_length.Given as goal

abbrev pub invariant-loop-i : goal.invariant-loop-i
invariant-loop-i l = name_from 0 l.text ≡ name_from l.i (drop l.i l.text)
