use Rattle.std.specs.Int.NonZero.{non_zero_u16_get}
use Rattle.tool_lines.specs.Call.{turns_left}
use Rattle.tool_lines.proofs.Turns.{Going}
use Rattle.tool_lines.proofs.advance.Given as goal

abbrev pub invariant-loop-t : goal.invariant-loop-t
invariant-loop-t l = Going (non_zero_u16_get l.period) l.trace l.initial.state l.state

abbrev pub decreases-loop-t : goal.decreases-loop-t
decreases-loop-t l = turns_left l.trace l.state
