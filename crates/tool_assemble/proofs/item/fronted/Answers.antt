use native.Mathlib.Omega.{arith}
use borrow.Author.Tests.{lt-ltb, le-ltb}
use Rattle.tool_assemble.proofs.Reading.{fronted_at}
use Rattle.tool_assemble.proofs.item.fronted.Goals as goal

pub returns-then-digit_of-gt9-clause-value : goal.returns-then-digit_of-gt9-clause-value
returns-then-digit_of-gt9-clause-value c = rw (c.colon.ensures.value, c.loop-i.invariant, fronted_at c.args.text.now c.loop-i.i (omega arith), ← c.digit_of.ensures, lt-ltb _ _ c.if-digit_of-gt9.true)

pub loop-i-preserved : goal.loop-i-preserved
loop-i-preserved c = rw (c.loop-i.invariant, fronted_at c.args.text.now c.loop-i.i (omega arith), ← c.digit_of.ensures, le-ltb _ _ c.if-digit_of-gt9.false)
