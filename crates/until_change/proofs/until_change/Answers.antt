use mathlib.Core.Path.{◌≡◌, sym, ap, ◌∙◌}
use mathlib.Core.Bool.{true, false, not}
use Prim.Native.Nat.{ℕ, ◌+◌, ◌-◌, ◌≤◌, ◌<◌, min}
use native.Mathlib.Omega.{arith}
use Rattle.qsm.specs.declared.state.Module.{Module}
use Rattle.until_change.specs.Change.{look, same_look}
use Rattle.until_change.specs.Steady.{ahead, steady, serial_still}
use Rattle.until_change.proofs.First.{nothing}
use Rattle.until_change.proofs.Turns.{changed, looks_apart, begins, meant, some, goes_on, ends, stands}
use Rattle.until_change.proofs.Returning.{comes_back}
use Rattle.until_change.proofs.until_change.Goals as goal

fewer : (left k kept : ℕ) → 1 ≤ k → k ≤ left → left ≤ kept → left - k < kept
fewer left k kept one fits most = omega arith

pub loop-left-init : goal.loop-left-init
loop-left-init c =
    let all = c.room-all.result in
    let rxd = c.args.rxd in
    let from = c.held-s.result in
    (omega arith, omega arith, begins all rxd from, begins all rxd from, λ i low high. absurd (omega arith))

pub overflow_sub-result : goal.overflow_sub-result
overflow_sub-result c = omega (arith, c.loop-left.invariant.0, c.loop-left.invariant.1)

pub overflow_add-result : goal.overflow_add-result
overflow_add-result c = omega (arith, c.loop-left.invariant.0, c.loop-left.invariant.1, c.loop-left-test.true)

pub returns-then-ne : goal.returns-then-ne
returns-then-ne c =
    let s = c.loop-left.s in
    let left = c.loop-left.left in
    let rxd = c.args.rxd in
    let now = c.shown-now.result in
    let all = c.room-all.result in
    let from = c.held-s.result in
    let k = c.within-k.result in
    let many : k ≡ min left (steady s rxd) =
    c.within-k.ensures ∙ ap (min left) c.steady.ensures.value in
    let f = c.steady.ensures.bound in
    let more : 1 ≤ left = c.loop-left-test.true in
    let enough : left ≤ all = omega (arith, c.loop-left.invariant.0, c.loop-left.invariant.1) in
    let then : c.shown-then.result ≡ look (ahead k rxd s) =
    c.shown-then.ensures ∙ ap look c.ahead-s.ensures in
    let other : same_look now (look (ahead k rxd s)) ≡ false =
    ap (same_look now) (sym then) ∙ looks_apart now c.shown-then.result c.ne.result c.ne.ensures ∙ ap not c.if-ne.true in
    let sizes = some now from s rxd all left k enough more c.loop-left.invariant.2 f many c.loop-left.invariant.4 in
    sym (ends now from s rxd all left k enough more c.loop-left.invariant.2 f many c.loop-left.invariant.4 other)
    ∙ meant c.args.m from now all c.args.pins rxd c.shown-now.ensures c.held-s.ensures c.room-all.ensures

pub overflow_sub-left : goal.overflow_sub-left
overflow_sub-left c = omega (arith, c.within-k.ensures)

pub returns-then-returned : goal.returns-then-returned
returns-then-returned c =
    let s = c.loop-left.s in
    let left = c.loop-left.left in
    let rxd = c.args.rxd in
    let now = c.shown-now.result in
    let all = c.room-all.result in
    let from = c.held-s.result in
    let k = c.within-k.result in
    let many : k ≡ min left (steady s rxd) =
    c.within-k.ensures ∙ ap (min left) c.steady.ensures.value in
    let f = c.steady.ensures.bound in
    let more : 1 ≤ left = c.loop-left-test.true in
    let enough : left ≤ all = omega (arith, c.loop-left.invariant.0, c.loop-left.invariant.1) in
    let then : c.shown-then.result ≡ look (ahead k rxd s) =
    c.shown-then.ensures ∙ ap look c.ahead-s.ensures in
    let same : same_look now (look (ahead k rxd s)) ≡ true =
    ap (same_look now) (sym then) ∙ looks_apart now c.shown-then.result c.ne.result c.ne.ensures ∙ ap not c.if-ne.false in
    let none = goes_on now from s rxd all left k enough more c.loop-left.invariant.2 f many c.loop-left.invariant.4 same in
    let sizes = some now from s rxd all left k enough more c.loop-left.invariant.2 f many c.loop-left.invariant.4 in
    let kept_left = c.loop-left.kept_left in
    let back = c.returned.ensures c.if-returned.true in
    let still : serial_still (ahead (all - kept_left) rxd from).sci rxd ≡ true =
    ap (λ (t : Module). serial_still t.sci rxd) (sym c.loop-left.invariant.3) ∙ back.0 in
    let again : (ahead (all - kept_left) rxd from).qspi ≡ (ahead (all - (left - k)) rxd from).qspi =
    ap (λ (t : Module). t.qspi) (sym c.loop-left.invariant.3) ∙ back.1 ∙ ap (λ (t : Module). t.qspi) (c.ahead-s.ensures ∙ stands now from s rxd all left k enough more c.loop-left.invariant.2 f many c.loop-left.invariant.4) in
    let less : left - k < kept_left = fewer left k kept_left sizes.0 sizes.1 c.loop-left.invariant.0 in
    let never = comes_back now from rxd all kept_left (left - k) less c.loop-left.invariant.1 still again none in
    sym (nothing (changed now from rxd) all 1 (λ j _. never (1 + j) (omega arith)))
    ∙ meant c.args.m from now all c.args.pins rxd c.shown-now.ensures c.held-s.ensures c.room-all.ensures

pub overflow_sub-all : goal.overflow_sub-all
overflow_sub-all c = omega (arith, c.loop-left.invariant.1)

pub overflow_sub-all-in-loop-left : goal.overflow_sub-all-in-loop-left
overflow_sub-all-in-loop-left c = omega (arith, c.loop-left.invariant.0, c.loop-left.invariant.1, c.within-k.ensures)

pub loop-left-smaller-then-all-kept_left : goal.loop-left-smaller-then-all-kept_left
loop-left-smaller-then-all-kept_left c = omega (arith, c.within-k.ensures, c.steady.ensures.value, c.loop-left-test.true)

pub loop-left-preserved-then-all-kept_left : goal.loop-left-preserved-then-all-kept_left
loop-left-preserved-then-all-kept_left c =
    let s = c.loop-left.s in
    let left = c.loop-left.left in
    let rxd = c.args.rxd in
    let now = c.shown-now.result in
    let all = c.room-all.result in
    let from = c.held-s.result in
    let k = c.within-k.result in
    let many : k ≡ min left (steady s rxd) =
    c.within-k.ensures ∙ ap (min left) c.steady.ensures.value in
    let f = c.steady.ensures.bound in
    let more : 1 ≤ left = c.loop-left-test.true in
    let enough : left ≤ all = omega (arith, c.loop-left.invariant.0, c.loop-left.invariant.1) in
    let then : c.shown-then.result ≡ look (ahead k rxd s) =
    c.shown-then.ensures ∙ ap look c.ahead-s.ensures in
    let same : same_look now (look (ahead k rxd s)) ≡ true =
    ap (same_look now) (sym then) ∙ looks_apart now c.shown-then.result c.ne.result c.ne.ensures ∙ ap not c.if-ne.false in
    let none = goes_on now from s rxd all left k enough more c.loop-left.invariant.2 f many c.loop-left.invariant.4 same in
    let sizes = some now from s rxd all left k enough more c.loop-left.invariant.2 f many c.loop-left.invariant.4 in
    let here = c.ahead-s.ensures ∙ stands now from s rxd all left k enough more c.loop-left.invariant.2 f many c.loop-left.invariant.4 in
    (omega arith, omega (arith, enough), here, here, none)

pub loop-left-smaller : goal.loop-left-smaller
loop-left-smaller c = omega (arith, c.within-k.ensures, c.steady.ensures.value, c.loop-left-test.true)

pub loop-left-preserved : goal.loop-left-preserved
loop-left-preserved c =
    let s = c.loop-left.s in
    let left = c.loop-left.left in
    let rxd = c.args.rxd in
    let now = c.shown-now.result in
    let all = c.room-all.result in
    let from = c.held-s.result in
    let k = c.within-k.result in
    let many : k ≡ min left (steady s rxd) =
    c.within-k.ensures ∙ ap (min left) c.steady.ensures.value in
    let f = c.steady.ensures.bound in
    let more : 1 ≤ left = c.loop-left-test.true in
    let enough : left ≤ all = omega (arith, c.loop-left.invariant.0, c.loop-left.invariant.1) in
    let then : c.shown-then.result ≡ look (ahead k rxd s) =
    c.shown-then.ensures ∙ ap look c.ahead-s.ensures in
    let same : same_look now (look (ahead k rxd s)) ≡ true =
    ap (same_look now) (sym then) ∙ looks_apart now c.shown-then.result c.ne.result c.ne.ensures ∙ ap not c.if-ne.false in
    let none = goes_on now from s rxd all left k enough more c.loop-left.invariant.2 f many c.loop-left.invariant.4 same in
    let sizes = some now from s rxd all left k enough more c.loop-left.invariant.2 f many c.loop-left.invariant.4 in
    let here = c.ahead-s.ensures ∙ stands now from s rxd all left k enough more c.loop-left.invariant.2 f many c.loop-left.invariant.4 in
    (omega (arith, c.loop-left.invariant.0), c.loop-left.invariant.1, here, c.loop-left.invariant.3, none)

pub returns : goal.returns
returns c =
    let rxd = c.args.rxd in
    let now = c.shown-now.result in
    let all = c.room-all.result in
    let from = c.held-s.result in
    let none : c.loop-left.left ≡ 0 = omega (arith, c.loop-left-test.false) in
    sym (nothing (changed now from rxd) all 1 (λ j less. c.loop-left.invariant.4 (1 + j) (omega arith) (omega (arith, none))))
    ∙ meant c.args.m from now all c.args.pins rxd c.shown-now.ensures c.held-s.ensures c.room-all.ensures
