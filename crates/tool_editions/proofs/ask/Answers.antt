use mathlib.Core.Path.{◌≡◌, sym, ◌∙◌}
use borrow.Author.Rules.{rules}
use lib.Seq.{length-take-le}
use Rattle.std.specs.Prelude.{Err}
use Rattle.tool_editions.specs.Editions.{asked}
use Rattle.tool_editions.proofs.Ways.{is_refused, inside, in_buffer}
use Rattle.tool_editions.proofs.ask.Goals as goal

pub returns-in_err-before : goal.returns-in_err-before
unfolding asked
returns-in_err-before c =
    let is : c.from_residual.result ≡ Err c.in_err-before.field-0.0 = search rules in
    rw (is, is_refused _ (sym c.in_err-before.was ∙ c.read_used.ensures))

pub slice_bounds-latest-end : goal.slice_bounds-latest-end
slice_bounds-latest-end c =
    sym (length-take-le c.args.used c.args.buf.now (inside c.args.buf.now c.args.used (sym c.in_ok-before.was ∙ c.read_used.ensures)))

pub returns-in-Some : goal.returns-in-Some
unfolding asked
returns-in-Some c =
    rw (in_buffer c.args.buf.now c.args.used (sym c.in_ok-before.was ∙ c.read_used.ensures)) (rw c.in-Some.is at c.latest.ensures)

pub returns-in-None : goal.returns-in-None
unfolding asked
returns-in-None c =
    rw (in_buffer c.args.buf.now c.args.used (sym c.in_ok-before.was ∙ c.read_used.ensures)) (rw c.in-None.is at c.latest.ensures)
