use native.Mathlib.Omega.{arith}
use lib.ListN.{get_or}
use borrow.Author.Tests.{lt-ltb, le-ltb, ne_eqb}
use Rattle.tool_assemble.proofs.Reading.{rest, some_left, numeral_some}
use Rattle.tool_assemble.proofs.scan.numeral.Goals as goal

pub returns-in-36-clause-value : goal.returns-in-36-clause-value
returns-in-36-clause-value c =
    let some = numeral_some c.args.c c.args.text.now (some_left _ _ c.is_empty.ensures c.if-is_empty.false) in
    rw (c.number.ensures.value, c.digits.ensures.value, rest c.args.text.now 1, c.limit-most.ensures.value, some, c.in-36.is)

pub returns-in-38-clause-value : goal.returns-in-38-clause-value
returns-in-38-clause-value c =
    let some = numeral_some c.args.c c.args.text.now (some_left _ _ c.is_empty.ensures c.if-is_empty.false) in
    rw (c.number-in-38.ensures.value, c.digits-in-38.ensures.value, rest c.args.text.now 1, c.limit-most.ensures.value, some, c.in-38.is)

pub returns-then-c-lt4-clause-value : goal.returns-then-c-lt4-clause-value
returns-then-c-lt4-clause-value c =
    let some = numeral_some c.args.c c.args.text.now (some_left _ _ c.is_empty.ensures c.if-is_empty.false) in
    rw (
      c.number-then-c-lt4.ensures.value,
      c.digits-then-c-lt4.ensures.value,
      c.limit-most.ensures.value,
      some,
      ne_eqb (get_or c.args.text.now 0 0) 36 (λ e. omega arith),
      ne_eqb (get_or c.args.text.now 0 0) 38 (λ e. omega arith),
      lt-ltb _ _ c.if-c-lt4.true,
    )

pub returns-else-c-lt4-clause-value : goal.returns-else-c-lt4-clause-value
returns-else-c-lt4-clause-value c =
    let some = numeral_some c.args.c c.args.text.now (some_left _ _ c.is_empty.ensures c.if-is_empty.false) in
    rw (
      c.number-else-c-lt4.ensures.value,
      c.digits-else-c-lt4.ensures.value,
      c.limit-most.ensures.value,
      some,
      ne_eqb (get_or c.args.text.now 0 0) 36 (λ e. omega arith),
      ne_eqb (get_or c.args.text.now 0 0) 38 (λ e. omega arith),
      le-ltb _ _ c.if-c-lt4.false,
    )
