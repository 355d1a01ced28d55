use borrow.Enum.Refused.{opened}
use native.Mathlib.Omega.{arith}
use borrow.Author.Rules.{rules}
use Rattle.tool_lines.proofs.Telling.{tells}
use Rattle.tool_lines.proofs.Turns.{starts, at_last, less, goes_on}
use Rattle.tool_lines.proofs.advance.Goals as goal

pub loop-t-init : goal.loop-t-init
loop-t-init c = starts _ _ _

pub returns-in_default : goal.returns-in_default
returns-in_default c = at_last _ _ _ _ c.loop-t.invariant _ c.turn-t.ensures (tells c.turn-t.result.outcome (opened c.in_default.in_default-own.keys2))

pub loop-t-smaller : goal.loop-t-smaller
loop-t-smaller c =
    less _ _ _ (search rules) _ c.turn-t.ensures c.in-Nothing.is
    (omega (arith, c.turn-t.type_inv))

pub loop-t-preserved : goal.loop-t-preserved
loop-t-preserved c =
    goes_on _ _ _ _ c.loop-t.invariant (search rules) _ c.turn-t.ensures
    c.in-Nothing.is (omega (arith, c.turn-t.type_inv))
