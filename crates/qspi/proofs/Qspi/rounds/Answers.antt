use mathlib.Core.Path.{refl, ◌∙◌}
use native.Mathlib.Omega.{arith}
use borrow.Author.Rules.{rules}
use Rattle.qspi.specs.model.Queue.{clock}
use Rattle.qspi.specs.declared.Qspi.{Qspi}
use Rattle.qspi.proofs.Quiet.{at_end_holds}
use Rattle.qspi.proofs.Returning.{stretched, further_back, rested, just_saved}
use Rattle.qspi.proofs.Qspi.rounds.Goals as goal

-- The invariants: the clocks left, from where the queue stands, give what all of them give from the beginning; and the queue stands where the
-- clocks since the last save lead from the saved state.

pub loop-left-init : goal.loop-left-init
loop-left-init c = (search rules, refl, just_saved (λ r. clock r c.args.pins) c.args.n c.args.self)

pub stretch-k-requires : goal.stretch-k-requires
stretch-k-requires c = c.loop-left-test.true

pub overflow_sub-left : goal.overflow_sub-left
overflow_sub-left c = omega (arith, c.stretch-k.ensures.1)

pub overflow_sub-saved_left : goal.overflow_sub-saved_left
overflow_sub-saved_left c = omega (arith, c.loop-left.invariant.0)

pub rest-left-requires : goal.rest-left-requires
rest-left-requires c =
    let k = c.stretch-k in
    omega (arith, c.loop-left.invariant.0, k.ensures.0, k.ensures.1)

pub loop-left-smaller-then-left-q : goal.loop-left-smaller-then-left-q
loop-left-smaller-then-left-q c =
    let k = c.stretch-k in
    omega (arith, c.rest-left.ensures.less, k.ensures.0, k.ensures.1)

pub loop-left-preserved-then-left-q : goal.loop-left-preserved-then-left-q
loop-left-preserved-then-left-q c =
    let k = c.stretch-k in
    let loop = c.loop-left in
    let start = c.args in
    let f : Qspi → Qspi = λ r. clock r start.pins in (
      search rules,
      rw c.rest-left.ensures.value
          (rested f c.same.result _ _ _ _ c.same.ensures
          (omega (arith, loop.invariant.0, k.ensures.0, k.ensures.1))
          (rw c.played-q.ensures
          (further_back f loop.saved_left loop.left k.result loop.saved loop.q loop.invariant.0 k.ensures.1 loop.invariant.2))
          ∙ rw c.played-q.ensures (stretched f loop.left k.result loop.q k.ensures.1 ∙ loop.invariant.1)),
      just_saved f c.rest-left.result c.played-q.result,
    )

pub loop-left-smaller : goal.loop-left-smaller
loop-left-smaller c =
    let k = c.stretch-k in
    omega (arith, k.ensures.0, k.ensures.1)

pub loop-left-preserved : goal.loop-left-preserved
loop-left-preserved c =
    let k = c.stretch-k in
    let loop = c.loop-left in
    let f : Qspi → Qspi = λ r. clock r c.args.pins in (
      omega (arith, loop.invariant.0),
      rw c.played-q.ensures (stretched f loop.left k.result loop.q k.ensures.1 ∙ loop.invariant.1),
      rw c.played-q.ensures
          (further_back f loop.saved_left loop.left k.result loop.saved loop.q loop.invariant.0 k.ensures.1 loop.invariant.2),
    )

pub returns : goal.returns
returns c = at_end_holds _ _ _ c.loop-left-test.false ∙ c.loop-left.invariant.1
