use mathlib.Core.Path.{◌≡◌, sym, ◌∙◌}
use native.Mathlib.Omega.{arith}
use Rattle.tool_judge.proofs.Beginnings.{further, stops, ends_both}
use Rattle.tool_judge.proofs.alike.Goals as goal

pub returns-then-x-i : goal.returns-then-x-i
returns-then-x-i c =
    sym (c.loop-i.invariant ∙ stops c.args.x.now c.args.y.now c.loop-i.i (omega arith) (omega arith) c.if-x-i.true)

pub loop-i-preserved : goal.loop-i-preserved
loop-i-preserved c =
    c.loop-i.invariant ∙ further _ _ c.loop-i.i (omega arith) (omega arith) c.if-x-i.false

pub returns : goal.returns
returns c =
    let same : c.min-both.result ≡ c.loop-i.i = omega arith in
    same ∙ sym (c.loop-i.invariant ∙ ends_both c.args.x.now c.args.y.now c.loop-i.i (omega (arith, c.min-both.ensures)))
