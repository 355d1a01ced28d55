use mathlib.Core.Path.{◌≡◌, sym, ap, ◌∙◌}
use native.Mathlib.Omega.{arith}
use lib.ListN.{length, drop}
use Prim.Native.Nat.{◌+◌, ◌-◌}
use Rattle.tool_assemble.specs.Sent.{character}
use Rattle.tool_assemble.proofs.Reading.{rest, part_length, quoted_none, quoted_at}
use Rattle.tool_assemble.proofs.sent.quoted.Goals as goal

pub returns-in_default-clause-value : goal.returns-in_default-clause-value
returns-in_default-clause-value c =
    let here : character (drop c.loop-turn.at c.args.text.now) ≡ _ =
    ap character (sym (rest c.args.text.now c.loop-turn.at)) ∙ sym c.first.ensures.value ∙ c.in_default.is in
    rw (c.loop-turn.invariant.1, quoted_at (length c.args.text.now - c.loop-turn.turn) c.loop-turn.at c.args.text.now (omega arith), here)

pub loop-turn-preserved : goal.loop-turn-preserved
loop-turn-preserved c =
    let here : character (drop c.loop-turn.at c.args.text.now) ≡ _ =
    ap character (sym (rest c.args.text.now c.loop-turn.at)) ∙ sym c.first.ensures.value ∙ c.in-Some.is in
    let one_less : length c.args.text.now - c.loop-turn.turn - 1 ≡ length c.args.text.now - (c.loop-turn.turn + 1) = omega arith in
    (omega (arith, c.in-Some.ensures.length_in_bounds, part_length c.args.text.now c.loop-turn.at), rw (c.loop-turn.invariant.1, quoted_at (length c.args.text.now - c.loop-turn.turn) c.loop-turn.at c.args.text.now (omega arith), here, one_less))

pub returns-clause-value : goal.returns-clause-value
returns-clause-value c =
    let none : length c.args.text.now - c.loop-turn.turn ≡ 0 = omega arith in
    rw (c.loop-turn.invariant.1, none, quoted_none)
