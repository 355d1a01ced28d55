use mathlib.Core.Path.{◌≡◌, refl, ◌∙◌}
use Prim.Native.Nat.{◌+◌, ◌≤◌}
use native.Mathlib.Omega.{arith}
use borrow.Author.Rules.{rules}
use lib.ListN.{length}
use Rattle.tool_editions.specs.Records.{first}
use Rattle.tool_editions.specs.Rules.{found_in, latest_from}
use Rattle.tool_editions.proofs.Walking.{stops, fits, found_on}
use Rattle.tool_editions.proofs.contents.latest.Goals as goal

pub loop-left-init : goal.loop-left-init
loop-left-init c = (search rules, refl)

pub returns-in_default : goal.returns-in_default
unfolding latest_from
returns-in_default c =
    let loop = c.loop-left in
    let v = c.args.v.now in
    rw (loop.invariant.1, stops v loop.at c.parse.ensures c.in_default.not-Ok loop.left)

pub overflow_add-next : goal.overflow_add-next
overflow_add-next c =
    let inside : c.loop-left.at + c.size.result ≤ length c.args.v.now =
    rw c.size.ensures (fits c.args.v.now c.loop-left.at c.parse.ensures c.in-Ok.is c.loop-left.invariant.0) in
    omega arith

pub slice_bounds-withdrawn-count : goal.slice_bounds-withdrawn-count
slice_bounds-withdrawn-count c =
    let inside : c.loop-left.at + c.size.result ≤ length c.args.v.now =
    rw c.size.ensures (fits c.args.v.now c.loop-left.at c.parse.ensures c.in-Ok.is c.loop-left.invariant.0) in
    search rules

pub slice_bounds-withdrawn-start : goal.slice_bounds-withdrawn-start
slice_bounds-withdrawn-start c =
    let inside : c.loop-left.at + c.size.result ≤ length c.args.v.now =
    rw c.size.ensures (fits c.args.v.now c.loop-left.at c.parse.ensures c.in-Ok.is c.loop-left.invariant.0) in
    search rules

pub slice_bounds-withdrawn-end : goal.slice_bounds-withdrawn-end
slice_bounds-withdrawn-end c =
    let inside : c.loop-left.at + c.size.result ≤ length c.args.v.now =
    rw c.size.ensures (fits c.args.v.now c.loop-left.at c.parse.ensures c.in-Ok.is c.loop-left.invariant.0) in
    search rules

pub loop-left-preserved : goal.loop-left-preserved
loop-left-preserved c =
    let inside : c.loop-left.at + c.size.result ≤ length c.args.v.now =
    rw c.size.ensures (fits c.args.v.now c.loop-left.at c.parse.ensures c.in-Ok.is c.loop-left.invariant.0) in
    let loop = c.loop-left in
    let v = c.args.v.now in (
      inside,
      loop.invariant.1
          ∙ found_on v loop.at c.parse.ensures c.in-Ok.is loop.left c.loop-left-test.true (found_in loop.found) _ _
          c.number.ensures (rw c.size.ensures) c.withdrawn-gone.ensures c.later-found.ensures,
    )

pub returns : goal.returns
unfolding latest_from first
returns c =
    let loop = c.loop-left in
    let none : loop.left ≡ 0 = omega arith in
    rw (loop.invariant.1, none)
