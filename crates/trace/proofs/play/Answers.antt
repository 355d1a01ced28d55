use mathlib.Core.Path.{refl}
use native.Mathlib.Omega.{arith}
use borrow.Author.Rules.{rules}
use borrow.Enum.Refused.{opened}
use Rattle.trace.specs.Trace.{answer_length}
use Rattle.trace.proofs.Going.{starts, has_room, moves, at_end_holds, at_refusal, at_full, at_limit, goes_on}
use Rattle.trace.proofs.play.Goals as goal

pub loop-at-init : goal.loop-at-init
loop-at-init c = starts _ _ _

pub parse-p-requires : goal.parse-p-requires
parse-p-requires c = tt

pub refused-stop-requires : goal.refused-stop-requires
refused-stop-requires c = tt

pub shape_of-out-in_default : goal.shape_of-out-in_default
shape_of-out-in_default c = search (rules, c.loop-at.invariant.same)

pub returns-in_default : goal.returns-in_default
returns-in_default c =
    let going = c.loop-at.invariant in
    let test = c.loop-at-test.true in
    at_refusal _ _ _ _ _ _ _ going test c.parse-p.result c.refused-stop.result c.parse-p.ensures (opened c.in_default.in_default-own.keys2) c.refused-stop.ensures

pub overflow_sub-out : goal.overflow_sub-out
overflow_sub-out c = c.loop-at.invariant.within

pub shape_of-out-then-out-put-lt-ANSWER_LENGTH : goal.shape_of-out-then-out-put-lt-ANSWER_LENGTH
shape_of-out-then-out-put-lt-ANSWER_LENGTH c = search (rules, c.loop-at.invariant.same)

pub returns-then-out-put-lt-ANSWER_LENGTH : goal.returns-then-out-put-lt-ANSWER_LENGTH
returns-then-out-put-lt-ANSWER_LENGTH c =
    let going = c.loop-at.invariant in
    let test = c.loop-at-test.true in
    at_full _ _ _ _ _ _ _ going test c.parse-p.result _ _ c.parse-p.ensures c.in-Record.is _ c.if-out-put-lt-ANSWER_LENGTH.true refl

pub step-s-requires : goal.step-s-requires
step-s-requires c = tt

pub shape_of-out-then-answer-eq-CLOCK_LIMIT : goal.shape_of-out-then-answer-eq-CLOCK_LIMIT
shape_of-out-then-answer-eq-CLOCK_LIMIT c = search (rules, c.loop-at.invariant.same)

pub returns-then-answer-eq-CLOCK_LIMIT : goal.returns-then-answer-eq-CLOCK_LIMIT
returns-then-answer-eq-CLOCK_LIMIT c =
    let going = c.loop-at.invariant in
    let test = c.loop-at-test.true in
    let stepped = c.step-s in
    at_limit _ _ _ _ _ _ _ going test c.parse-p.result _ _ c.parse-p.ensures c.in-Record.is _ stepped.result c.if-out-put-lt-ANSWER_LENGTH.false stepped.ensures c.if-answer-eq-CLOCK_LIMIT.true refl

pub put_answer-requires : goal.put_answer-requires
put_answer-requires c =
    let loop = c.loop-at in
    has_room loop.out loop.put answer_length c.if-out-put-lt-ANSWER_LENGTH.false

pub overflow_add-at : goal.overflow_add-at
overflow_add-at c =
    let going = c.loop-at.invariant in
    let test = c.loop-at-test.true in
    let moved = moves _ _ _ _ _ _ _ going test c.parse-p.result _ _ c.parse-p.ensures c.in-Record.is in
    omega (arith, moved)

pub overflow_add-put : goal.overflow_add-put
overflow_add-put c =
    let loop = c.loop-at in
    let good = c.well_formed in
    omega (arith, c.if-out-put-lt-ANSWER_LENGTH.false, loop.invariant.within, loop.invariant.same)

pub loop-at-smaller : goal.loop-at-smaller
loop-at-smaller c =
    let going = c.loop-at.invariant in
    let test = c.loop-at-test.true in
    let moved = moves _ _ _ _ _ _ _ going test c.parse-p.result _ _ c.parse-p.ensures c.in-Record.is in
    omega (arith, moved, test)

pub loop-at-preserved : goal.loop-at-preserved
loop-at-preserved c =
    let going = c.loop-at.invariant in
    let test = c.loop-at-test.true in
    let stepped = c.step-s in
    goes_on _ _ _ _ _ _ _ going test c.parse-p.result _ _ c.parse-p.ensures c.in-Record.is stepped.result _ c.if-out-put-lt-ANSWER_LENGTH.false stepped.ensures c.if-answer-eq-CLOCK_LIMIT.false c.put_answer.ensures

pub shape_of-out : goal.shape_of-out
shape_of-out c = search (rules, c.loop-at.invariant.same)

pub returns : goal.returns
returns c = at_end_holds _ _ _ _ _ _ _ c.loop-at.invariant _ c.loop-at-test.false refl
