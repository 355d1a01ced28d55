use Rattle.std.proofs.Common.{sym, ap, ◌∙◌, eq-eqb}
use borrow.Author.Tests.{ne_eqb}
use Rattle.tool_compare.specs.declared.Compared.{Compared}
use Rattle.tool_compare.proofs.ByKind.{five_is}
use Rattle.cmd_compare.specs.Piece.{pieced}
use Rattle.cmd_compare.proofs.piece.piece.Goals as goal

pub first_or_second-requires : goal.first_or_second-requires
first_or_second-requires c =
    five_is _ _ _ _ (sym (ap (λ (r : Compared). r.refusal) c.compare_numbers_as-r.ensures.1) ∙ c.if-r-eq5.true)

pub returns-then-r-eq5-clause-value : goal.returns-then-r-eq5-clause-value
unfolding pieced
returns-then-r-eq5-clause-value c =
    let five = sym (ap (λ (r : Compared). r.refusal) c.compare_numbers_as-r.ensures.1) ∙ c.if-r-eq5.true in
    rw (c.stopped.ensures, c.first_or_second.ensures, eq-eqb _ _ five)

pub returns-then-r-eq7-clause-value : goal.returns-then-r-eq7-clause-value
unfolding pieced
returns-then-r-eq7-clause-value c =
    let is = ap (λ (r : Compared). r.refusal) c.compare_numbers_as-r.ensures.1 in
    rw (c.stopped-then-r-eq7.ensures, ne_eqb _ _ (λ e. c.if-r-eq5.false (is ∙ e)), eq-eqb _ _ (sym is ∙ c.if-r-eq7.true))

pub returns-clause-value : goal.returns-clause-value
unfolding pieced
returns-clause-value c =
    let is = ap (λ (r : Compared). r.refusal) c.compare_numbers_as-r.ensures.1 in
    rw (c.followed.ensures, c.compare_numbers_as-r.ensures.1, ne_eqb _ _ (λ e. c.if-r-eq5.false (is ∙ e)), ne_eqb _ _ (λ e. c.if-r-eq7.false (is ∙ e)))
