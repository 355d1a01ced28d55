use mathlib.Core.Path.{◌≡◌, ◌∙◌}
use borrow.Author.Rules.{rules}
use Rattle.std.specs.Prelude.{Err}
use Rattle.tool_editions.specs.Refusals.{broken_by}
use Rattle.tool_editions.proofs.Refusing.{is_let, is_refused}
use Rattle.tool_editions.proofs.Accepting.{starts, at_end_holds, at_broken, at_refused, goes_on}
use Rattle.tool_editions.proofs.contents.read.Goals as goal

pub loop-at-init : goal.loop-at-init
loop-at-init c = starts c.args.v.now

pub returns-in_err-r : goal.returns-in_err-r
returns-in_err-r c =
    let told : c.from_residual.result ≡ Err (broken_by c.in_err-r.field-0.0) = search rules in
    told ∙ at_broken c.args.v.now c.loop-at.invariant c.loop-at-test.true c.parse.ensures c.in_err-r.was

pub returns-then-is_err : goal.returns-then-is_err
returns-then-is_err c =
    at_refused c.args.v.now c.loop-at.invariant c.loop-at-test.true c.parse.ensures c.in_ok-r.was
    c.judged.ensures (is_refused c.judged.result c.is_err.ensures.value c.if-is_err.true)

pub loop-at-preserved : goal.loop-at-preserved
loop-at-preserved c =
    goes_on c.args.v.now c.loop-at.invariant c.loop-at-test.true c.parse.ensures c.in_ok-r.was
    c.judged.ensures (is_let c.judged.result c.is_err.ensures.value c.if-is_err.false) c.last_after-last.ensures c.size-at.ensures

pub returns : goal.returns
returns c = at_end_holds c.args.v.now c.loop-at.invariant c.loop-at-test.false
