use Rattle.std.proofs.Common.{◌≡◌, ◌-◌, ◌≤◌, length}
use Rattle.tool_assemble.specs.Sent.{quoted}
use Rattle.tool_assemble.proofs.sent.quoted.Given as goal

abbrev pub invariant-loop-turn : goal.invariant-loop-turn
invariant-loop-turn l = (l.at ≤ length l.text) × (quoted (length l.text) 0 l.text ≡ quoted (length l.text - l.turn) l.at l.text)
