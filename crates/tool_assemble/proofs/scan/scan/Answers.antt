use mathlib.Core.Path.{◌≡◌, sym, ap, ◌∙◌}
use native.Mathlib.Omega.{arith}
use lib.ListN.{drop, get_or, length-drop}
use lib.Seq.{drop-drop}
use Rattle.std.proofs.lemmas.List.{drop_all}
use Rattle.tool_assemble.specs.Scan.{element}
use Rattle.tool_assemble.proofs.Reading.{rest, part_length, scan_at, scan_end}
use Rattle.tool_assemble.proofs.scan.scan.Goals as goal

pub returns-in_default-clause-value : goal.returns-in_default-clause-value
returns-in_default-clause-value c =
    let here : element (get_or c.args.pattern.now c.loop-c.c-index 0) (drop c.loop-c.at c.args.text.now) ≡ _ =
    ap (element (get_or c.args.pattern.now c.loop-c.c-index 0)) (sym (rest c.args.text.now c.loop-c.at)) ∙ sym c.element.ensures.value ∙ c.in_default.is in
    rw (c.loop-c.invariant.1, scan_at c.args.pattern.now c.loop-c.c-index (drop c.loop-c.at c.args.text.now) c.loop-c.numbers (omega arith), here, length-drop c.loop-c.at c.args.text.now)

pub loop-c-preserved : goal.loop-c-preserved
loop-c-preserved c =
    let here : element (get_or c.args.pattern.now c.loop-c.c-index 0) (drop c.loop-c.at c.args.text.now) ≡ _ =
    ap (element (get_or c.args.pattern.now c.loop-c.c-index 0)) (sym (rest c.args.text.now c.loop-c.at)) ∙ sym c.element.ensures.value ∙ c.in-Some.is in
    (omega (arith, c.in-Some.ensures.length_in_bounds, part_length c.args.text.now c.loop-c.at), rw (c.loop-c.invariant.1, scan_at c.args.pattern.now c.loop-c.c-index (drop c.loop-c.at c.args.text.now) c.loop-c.numbers (omega arith), here, drop-drop c.in-Some.e.length c.loop-c.at c.args.text.now, c.pushed-numbers.ensures))

pub returns-clause-value : goal.returns-clause-value
returns-clause-value c = rw (c.loop-c.invariant.1, drop_all c.loop-c.c-index c.args.pattern.now (omega arith), scan_end, length-drop c.loop-c.at c.args.text.now)
