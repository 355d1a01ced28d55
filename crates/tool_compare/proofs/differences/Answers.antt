use mathlib.Core.Path.{◌≡◌, ap}
use native.Mathlib.Omega.{arith}
use borrow.Author.Rules.{rules}
use lib.ListN.{length}
use Rattle.tool_compare.specs.Compare.{differing}
use Rattle.tool_compare.proofs.Differing.{passing_starts, answers_within, passes, few, skipped, counted_length}
use Rattle.tool_compare.proofs.differences.Goals as goal
use Rattle.tool_compare.proofs.differences.Goals.{then-not-same, else-not-same}

pub loop-i-init : goal.loop-i-init
unfolding differing
loop-i-init c = (passing_starts _ _ _ _ c.requires.0 c.requires.1, search rules)

pub overflow_add-end : goal.overflow_add-end
overflow_add-end c = omega (arith, answers_within c.loop-i.invariant.0 c.loop-i-test.true, c.well_formed)

pub slice_bounds-same-start : goal.slice_bounds-same-start
slice_bounds-same-start c = let h = answers_within c.loop-i.invariant.0 c.loop-i-test.true in search rules

pub slice_bounds-same-end : goal.slice_bounds-same-end
slice_bounds-same-end c = let h = answers_within c.loop-i.invariant.0 c.loop-i-test.true in search rules

pub slice_bounds-same-start-in-loop-i : goal.slice_bounds-same-start-in-loop-i
slice_bounds-same-start-in-loop-i c = let h = answers_within c.loop-i.invariant.0 c.loop-i-test.true in search rules

pub slice_bounds-same-end-in-loop-i : goal.slice_bounds-same-end-in-loop-i
slice_bounds-same-end-in-loop-i c = let h = answers_within c.loop-i.invariant.0 c.loop-i-test.true in search rules

pub same-requires : goal.same-requires
same-requires c = let h = answers_within c.loop-i.invariant.0 c.loop-i-test.true in search rules

pub overflow_add-count : goal.overflow_add-count
overflow_add-count c =
    let loop = c.loop-i in
    omega (arith, few c.args.bytes c.args.a.now c.args.b.now loop.i, loop.invariant.1)

pub loop-i-preserved : goal.loop-i-preserved
loop-i-preserved c =
    let loop = c.loop-i in
    let test = c.loop-i-test.true in
    let same = c.same in (
      passes loop.invariant.0 test,
      elim c.if-not-same.branch [
        | then-not-same w ↦ omega (arith, w.count-is, loop.invariant.1, counted_length loop.invariant.0 test same.ensures w.if-not-same.true)
        | else-not-same w ↦ omega (arith, w.count-is, loop.invariant.1, ap length (skipped loop.invariant.0 test same.ensures w.if-not-same.false))
      ],
    )

pub returns : goal.returns
returns c =
    let loop = c.loop-i in
    let all : loop.i ≡ c.args.n = omega (arith, loop.invariant.0.inside) in
    rw (loop.invariant.1, all)
