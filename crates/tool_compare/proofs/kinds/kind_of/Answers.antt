use native.Mathlib.Omega.{arith}
use lib.ListN.{length}
use borrow.Author.Tests.{eq-eqb, ne_eqb}
use Rattle.tool_compare.proofs.kinds.kind_of.Goals as goal

pub returns-then-a-gt0 : goal.returns-then-a-gt0
returns-then-a-gt0 c = rw (ne_eqb (length c.args.a.now) 0 (omega arith))

pub returns-then-b-gt0 : goal.returns-then-b-gt0
returns-then-b-gt0 c =
    let start = c.args in
    rw (eq-eqb (length start.a.now) 0 (omega arith), ne_eqb (length start.b.now) 0 (omega arith))

pub returns : goal.returns
returns c =
    let start = c.args in
    rw (eq-eqb (length start.a.now) 0 (omega arith), eq-eqb (length start.b.now) 0 (omega arith))
