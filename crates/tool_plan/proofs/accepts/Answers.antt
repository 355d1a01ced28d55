use mathlib.Core.Path.{◌≡◌, sym}
use Rattle.tool_plan.proofs.Verdict.{not_proper, other_number, judged}
use Rattle.tool_plan.proofs.accepts.Goals as goal

pub returns-in_default : goal.returns-in_default
returns-in_default c =
    let args = c.args in
    sym (not_proper args.points args.window args.plan c.in_default.ensures)

pub returns-then-plan-points : goal.returns-then-plan-points
returns-then-plan-points c =
    let args = c.args in
    sym (other_number args.points args.window args.plan c.if-plan-points.true)

pub returns : goal.returns
returns c =
    let args = c.args in
    let own : c.in-Some.proper.given ≡ args.points = c.in-Some.ensures.0 in
    rw (c.last_edge.ensures, c.allowed.ensures, c.pointed.ensures, c.carried.ensures, own)
    (sym (judged args.points args.window args.plan c.in-Some.ensures.1 c.if-plan-points.false))
