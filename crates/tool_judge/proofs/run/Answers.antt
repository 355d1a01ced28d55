use mathlib.Core.Path.{ap, ◌∙◌}
use Prim.Native.Nat.{ℕ}
use Rattle.tool_judge.specs.declared.Ran.{Ran}
use Rattle.tool_judge.proofs.Walking.{starts, at_end_holds, at_refusal, at_full, at_limit, goes_on}
use Rattle.tool_judge.proofs.run.Goals as goal

pub loop-walked-init : goal.loop-walked-init
loop-walked-init c = (starts _ _ _ _, λ i. 0)

pub returns-in_default : goal.returns-in_default
returns-in_default c =
    let loop = c.loop-walked in
    let test = c.loop-walked-test.true in
    at_refusal _ _ _ _ _ _ _ _ _ _ loop.invariant.0 test c.parse-p.result c.refusal_of-stop.result c.parse-p.ensures c.in_default.not-Record c.refusal_of-stop.ensures

pub returns-then-full : goal.returns-then-full
returns-then-full c =
    let loop = c.loop-walked in
    at_full _ _ _ _ _ _ _ _ _ _ loop.invariant.0 c.loop-walked-test.true c.parse-p.result _ _ c.parse-p.ensures c.in-Record.is
    c.min-here.result c.min-here.ensures c.waits-full.result c.waits-full.ensures c.if-full.true

pub returns-then-answer-eq10 : goal.returns-then-answer-eq10
returns-then-answer-eq10 c =
    let loop = c.loop-walked in
    at_limit _ _ _ _ _ _ _ _ _ _ loop.invariant.0 c.loop-walked-test.true c.parse-p.result _ _ c.parse-p.ensures c.in-Record.is
    c.min-here.result c.min-here.ensures c.waits-full.result c.waits-full.ensures
    c.step-s.result c.if-full.false c.step-s.ensures c.if-answer-eq10.true

pub loop-walked-preserved : goal.loop-walked-preserved
loop-walked-preserved c =
    let loop = c.loop-walked in (
      goes_on _ _ _ _ _ _ _ _ _ _ loop.invariant.0 c.loop-walked-test.true c.parse-p.result _ _ c.parse-p.ensures c.in-Record.is
          c.min-here.result c.min-here.ensures c.waits-full.result c.waits-full.ensures
          c.step-s.result c.if-full.false c.step-s.ensures c.told-walked.result c.answer_bytes-ours.result c.if-answer-eq10.false
          c.answer_bytes-ours.ensures c.told-walked.ensures,
      loop.invariant.1,
    )

pub returns : goal.returns
returns c =
    let w = c.loop-walked.walked in
    let stands : ℕ → Ran = λ k. record {
      walked = record { state = w.state; records = w.records; read = w.read; passed = w.passed; verdict = w.verdict; stop = k };
      ours = c.loop-walked.ours;
    } in
    ap stands c.loop-walked.invariant.1 ∙ at_end_holds _ _ _ _ _ _ _ _ _ _ c.loop-walked.invariant.0 c.loop-walked-test.false
