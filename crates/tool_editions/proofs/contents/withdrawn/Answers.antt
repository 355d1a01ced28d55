use mathlib.Core.Path.{◌≡◌, sym, ◌∙◌}
use Prim.Native.Nat.{◌+◌, ◌-◌}
use native.Mathlib.Omega.{arith}
use Rattle.tool_editions.specs.Records.{first}
use Rattle.tool_editions.specs.Rules.{withdrawn}
use Rattle.tool_editions.proofs.Walking.{stops, fits, gone_here, gone_later}
use Rattle.tool_editions.proofs.contents.withdrawn.Goals as goal

pub returns-in_default : goal.returns-in_default
unfolding withdrawn
returns-in_default c =
    let loop = c.loop in
    let v = c.args.v.now in
    rw (loop.invariant.1, stops v loop.at c.parse.ensures c.in_default.not-Ok (c.args.count - loop.counter))

pub returns-then-withdraws : goal.returns-then-withdraws
returns-then-withdraws c =
    let loop = c.loop in
    let v = c.args.v.now in
    rw loop.invariant.1
    (sym (gone_here v loop.at c.parse.ensures c.in-Ok.is (c.args.count - loop.counter) (omega (arith, c.loop-test.true)) _ c.withdraws.ensures c.if-withdraws.true))

pub loop-preserved : goal.loop-preserved
loop-preserved c =
    let loop = c.loop in
    let v = c.args.v.now in
    let whole = c.in-Ok.is in
    let less : c.args.count - (loop.counter + 1) ≡ c.args.count - loop.counter - 1 = omega arith in
    rw (c.size-at.ensures, less) (
      fits v loop.at c.parse.ensures whole loop.invariant.0,
      loop.invariant.1 ∙ gone_later v loop.at c.parse.ensures whole (c.args.count - loop.counter) (omega (arith, c.loop-test.true)) _ c.withdraws.ensures c.if-withdraws.false,
    )

pub returns : goal.returns
unfolding withdrawn first
returns c =
    let loop = c.loop in
    let none : c.args.count - loop.counter ≡ 0 = omega arith in
    rw (loop.invariant.1, none)
