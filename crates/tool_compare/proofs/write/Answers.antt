use mathlib.Core.Path.{◌≡◌}
use native.Mathlib.Omega.{arith}
use borrow.Author.Rules.{rules}
use lib.ListN.{length-take, length-drop, length-set}
use Rattle.tool_compare.proofs.Differing.{answers_within}
use Rattle.tool_compare.proofs.Listing.{listing_starts, length_is, skips, fits, puts}
use Rattle.tool_compare.proofs.write.Goals as goal
use Rattle.tool_compare.proofs.write.Goals.{then-not-same, else-not-same}

pub loop-i-init : goal.loop-i-init
loop-i-init c =
    let pre = c.requires in
    listing_starts _ _ _ _ _ _ pre.k_bound.1 pre.n_in_bounds pre.k_bound.2 pre.k_bound.3

pub overflow_add-end : goal.overflow_add-end
overflow_add-end c = omega (arith, answers_within c.loop-i.invariant.passing c.loop-i-test.true, c.well_formed)

pub slice_bounds-same-start : goal.slice_bounds-same-start
slice_bounds-same-start c = let h = answers_within c.loop-i.invariant.passing c.loop-i-test.true in search rules

pub slice_bounds-same-end : goal.slice_bounds-same-end
slice_bounds-same-end c = let h = answers_within c.loop-i.invariant.passing c.loop-i-test.true in search rules

pub same-requires : goal.same-requires
same-requires c = let h = answers_within c.loop-i.invariant.passing c.loop-i-test.true in search rules

pub slice_bounds-sum-start : goal.slice_bounds-sum-start
slice_bounds-sum-start c = let h = answers_within c.loop-i.invariant.passing c.loop-i-test.true in search rules

pub slice_bounds-sum-end : goal.slice_bounds-sum-end
slice_bounds-sum-end c = let h = answers_within c.loop-i.invariant.passing c.loop-i-test.true in search rules

pub sum-s-requires : goal.sum-s-requires
sum-s-requires c =
    let pre = c.requires in
    let h = answers_within c.loop-i.invariant.passing c.loop-i-test.true in
    (pre.k_bound.0, simp (length-take, length-drop) (omega (arith, h, pre.k_bound.1)), simp (length-take, length-drop) (omega (arith, h)))

pub offset_bounds-list-put : goal.offset_bounds-list-put
offset_bounds-list-put c = omega (arith, fits c.loop-i.invariant c.loop-i-test.true c.same.ensures c.if-not-same.true, c.well_formed)

pub bounds-list-put : goal.bounds-list-put
bounds-list-put c = omega (arith, fits c.loop-i.invariant c.loop-i-test.true c.same.ensures c.if-not-same.true)

pub overflow_add-list : goal.overflow_add-list
overflow_add-list c = omega (arith, fits c.loop-i.invariant c.loop-i-test.true c.same.ensures c.if-not-same.true, c.well_formed)

pub offset_bounds-list-put-then-not-same : goal.offset_bounds-list-put-then-not-same
offset_bounds-list-put-then-not-same c = omega (arith, fits c.loop-i.invariant c.loop-i-test.true c.same.ensures c.if-not-same.true, c.well_formed)

pub bounds-list-put-then-not-same : goal.bounds-list-put-then-not-same
bounds-list-put-then-not-same c = simp length-set (omega (arith, fits c.loop-i.invariant c.loop-i-test.true c.same.ensures c.if-not-same.true))

pub overflow_add-put : goal.overflow_add-put
overflow_add-put c = omega (arith, fits c.loop-i.invariant c.loop-i-test.true c.same.ensures c.if-not-same.true, c.well_formed)

pub loop-i-preserved : goal.loop-i-preserved
loop-i-preserved c =
    let loop = c.loop-i in
    let test = c.loop-i-test.true in
    let same = c.same in
    elim c.if-not-same.branch [
      | then-not-same w ↦ rw (w.list-is, w.put-is) (puts loop.invariant test same.ensures w.sum-s.ensures w.if-not-same.true)
      | else-not-same w ↦ rw (w.list-is, w.put-is) (skips loop.invariant test same.ensures w.if-not-same.false)
    ]

pub shape_of-list : goal.shape_of-list
shape_of-list c = length_is c.loop-i.invariant

pub returns : goal.returns
returns c =
    let loop = c.loop-i in
    let all : loop.i ≡ c.args.n = omega (arith, loop.invariant.passing.inside) in
    rw (loop.invariant.list_is, loop.invariant.put_is, all)

pub slice_bounds-same-start-in-loop-i : goal.slice_bounds-same-start-in-loop-i
slice_bounds-same-start-in-loop-i c = let h = answers_within c.loop-i.invariant.passing c.loop-i-test.true in search rules

pub slice_bounds-same-end-in-loop-i : goal.slice_bounds-same-end-in-loop-i
slice_bounds-same-end-in-loop-i c = let h = answers_within c.loop-i.invariant.passing c.loop-i-test.true in search rules

pub slice_bounds-sum-start-then-not-same : goal.slice_bounds-sum-start-then-not-same
slice_bounds-sum-start-then-not-same c = let h = answers_within c.loop-i.invariant.passing c.loop-i-test.true in search rules

pub slice_bounds-sum-end-then-not-same : goal.slice_bounds-sum-end-then-not-same
slice_bounds-sum-end-then-not-same c = let h = answers_within c.loop-i.invariant.passing c.loop-i-test.true in search rules
