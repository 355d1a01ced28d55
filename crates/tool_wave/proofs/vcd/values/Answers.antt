use mathlib.Core.Path.{◌≡◌, sym, ap, ◌∙◌}
use Prim.Native.Nat.{ℕ, ◌+◌, ◌-◌}
use native.Mathlib.Omega.{arith}
use Rattle.text.specs.Line.{puts}
use Rattle.tool_wave.specs.Vcd.{values}
use Rattle.tool_wave.proofs.Signs.{values_first, values_none}
use Rattle.tool_wave.proofs.vcd.values.Goals as goal

pub loop-name-preserved : goal.loop-name-preserved
loop-name-preserved c =
    let loop = c.loop-name in
    let last = c.args.id + c.args.n in
    let less : last - (loop.name + 1) ≡ last - loop.name - 1 = omega arith in
    rw (
      c.halved-b.ensures,
      c.halved-a.ensures,
      c.value-line.ensures,
      c.sign-in-loop-name.ensures,
      c.sign.ensures,
      less,
    )
    (sym (values_first loop.line (last - loop.name) loop.name loop.a loop.b (omega arith)) ∙ loop.invariant)

pub returns : goal.returns
returns c =
    let loop = c.loop-name in
    let last = c.args.id + c.args.n in
    let none : last - loop.name ≡ 0 = omega arith in
    let all : last - c.args.id ≡ c.args.n = omega arith in
    sym (values_none loop.line loop.name loop.a loop.b)
    ∙ ap (λ (k : ℕ). puts loop.line (values k loop.name loop.a loop.b)) (sym none)
    ∙ loop.invariant
    ∙ ap (λ (k : ℕ). puts c.args.start (values k c.args.id c.args.v c.args.w)) all
