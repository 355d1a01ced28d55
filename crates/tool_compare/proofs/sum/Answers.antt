use native.Mathlib.Omega.{arith}
use borrow.Author.Rules.{rules}
use Rattle.tool_compare.proofs.Summing.{summing_starts, summed, size_within, weight_small, small, sums}
use Rattle.tool_compare.proofs.sum.Goals as goal

pub loop-f-init : goal.loop-f-init
loop-f-init c = summing_starts _ _ _ c.requires.0 c.requires.1

pub overflow_add-end : goal.overflow_add-end
overflow_add-end c = omega (arith, size_within c.loop-f.invariant c.loop-f-test.true, c.well_formed)

pub slice_bounds-same-count : goal.slice_bounds-same-count
slice_bounds-same-count c = let h = size_within c.loop-f.invariant c.loop-f-test.true in search rules

pub slice_bounds-same-start : goal.slice_bounds-same-start
slice_bounds-same-start c = let h = size_within c.loop-f.invariant c.loop-f-test.true in search rules

pub slice_bounds-same-end : goal.slice_bounds-same-end
slice_bounds-same-end c = let h = size_within c.loop-f.invariant c.loop-f-test.true in search rules

pub slice_bounds-same-count-in-loop-f : goal.slice_bounds-same-count-in-loop-f
slice_bounds-same-count-in-loop-f c = let h = size_within c.loop-f.invariant c.loop-f-test.true in search rules

pub same-requires : goal.same-requires
same-requires c = let h = size_within c.loop-f.invariant c.loop-f-test.true in search rules

pub overflow_add-sum : goal.overflow_add-sum
overflow_add-sum c =
    let loop = c.loop-f in
    let test = c.loop-f-test.true in
    omega (arith, loop.invariant.below, weight_small loop.invariant test, small loop.invariant test c.same.ensures c.weighed-sum.ensures)

pub overflow_mul-weight : goal.overflow_mul-weight
overflow_mul-weight c =
    let loop = c.loop-f in
    let test = c.loop-f-test.true in
    omega (arith, weight_small loop.invariant test)

pub loop-f-preserved : goal.loop-f-preserved
loop-f-preserved c =
    let loop = c.loop-f in
    let test = c.loop-f-test.true in
    sums loop.invariant test c.same.ensures c.weighed-sum.ensures

pub returns : goal.returns
returns c = summed c.loop-f.invariant c.loop-f-test.false

pub slice_bounds-same-start-in-loop-f : goal.slice_bounds-same-start-in-loop-f
slice_bounds-same-start-in-loop-f c = let h = size_within c.loop-f.invariant c.loop-f-test.true in search rules

pub slice_bounds-same-end-in-loop-f : goal.slice_bounds-same-end-in-loop-f
slice_bounds-same-end-in-loop-f c = let h = size_within c.loop-f.invariant c.loop-f-test.true in search rules
