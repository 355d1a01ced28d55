use mathlib.Core.Path.{◌≡◌, sym, ap, ◌∙◌}
use Prim.Native.Nat.{ℕ, ◌+◌}
use native.Mathlib.Omega.{arith}
use mir.Syntax.{w8}
use borrow.Kind.Array.{e_int, good_length}
use borrow.Author.Rules.{rules}
use Rattle.answers.specs.Field.{field_at}
use Rattle.answers.specs.declared.Field.TheVariants.{Kind}
use Rattle.tool_judge.specs.Verdict.{alike, numbered}
use Rattle.tool_judge.specs.Verdict.{reject}
use Rattle.tool_judge.proofs.Verdicts.{one_right, one_cut, one_field}
use Rattle.tool_judge.proofs.one.Goals as goal

pub returns-then-k-eq-ANSWER_LENGTH : goal.returns-then-k-eq-ANSWER_LENGTH
returns-then-k-eq-ANSWER_LENGTH c =
    sym (ap (numbered c.args.n) (one_right c.args.x c.args.y.now (good_length (e_int w8) 18 c.args.x _ c.well_formed.1.0) (search rules) (sym c.alike-k.ensures ∙ c.if-k-eq-ANSWER_LENGTH.true)))

pub returns-then-y-lt-ANSWER_LENGTH : goal.returns-then-y-lt-ANSWER_LENGTH
returns-then-y-lt-ANSWER_LENGTH c =
    let here : c.args.n + 0 ≡ c.args.n = omega arith in
    sym (ap (numbered c.args.n) (one_cut c.args.x c.args.y.now (good_length (e_int w8) 18 c.args.x _ c.well_formed.1.0) (search rules) (λ e. c.if-k-eq-ANSWER_LENGTH.false (c.alike-k.ensures ∙ e)) c.if-y-lt-ANSWER_LENGTH.true)
    ∙ ap (λ (k : ℕ). reject k Kind) here)

pub returns-else-y-lt-ANSWER_LENGTH : goal.returns-else-y-lt-ANSWER_LENGTH
returns-else-y-lt-ANSWER_LENGTH c =
    let is : c.alike-k.result ≡ alike c.args.x c.args.y.now = c.alike-k.ensures in
    let here : c.args.n + 0 ≡ c.args.n = omega arith in
    sym (ap (numbered c.args.n) (one_field c.args.x c.args.y.now (good_length (e_int w8) 18 c.args.x _ c.well_formed.1.0) (search rules) (λ e. c.if-k-eq-ANSWER_LENGTH.false (is ∙ e)) c.if-y-lt-ANSWER_LENGTH.false)
    ∙ ap (λ (k : ℕ). reject k (field_at (alike c.args.x c.args.y.now))) here
    ∙ ap (reject c.args.n) (ap field_at (sym is) ∙ sym c.field_at-field.ensures))
