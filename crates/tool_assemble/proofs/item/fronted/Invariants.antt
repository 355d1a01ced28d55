use Rattle.std.proofs.Common.{◌≡◌, drop}
use Rattle.tool_assemble.specs.Item.{fronted_from}
use Rattle.tool_assemble.proofs.item.fronted.Given as goal

abbrev pub invariant-loop-i : goal.invariant-loop-i
invariant-loop-i l = fronted_from 0 l.text ≡ fronted_from l.i (drop l.i l.text)
