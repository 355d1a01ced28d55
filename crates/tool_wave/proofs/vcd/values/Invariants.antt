-- The invariant: the lines that are left give what all of them give.
use mathlib.Core.Path.{◌≡◌}
use Prim.Native.Nat.{◌-◌}
use Rattle.text.specs.Line.{puts}
use Rattle.tool_wave.specs.Vcd.{values}
use Rattle.tool_wave.proofs.vcd.values.Given as goal

abbrev pub invariant-loop-name : goal.invariant-loop-name
invariant-loop-name l =
    puts l.line (values (l.name-end - l.name) l.name l.a l.b) ≡ puts l.initial.line (values (l.name-end - l.initial.name) l.initial.name l.initial.a l.initial.b)
