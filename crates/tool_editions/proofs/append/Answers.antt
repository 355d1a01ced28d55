use mathlib.Core.Path.{◌≡◌, sym, ◌∙◌}
use Prim.Native.Nat.{◌-◌, ◌≤◌}
use native.Mathlib.Omega.{arith}
use borrow.Author.Rules.{rules}
use lib.ListN.{length, take, length-take, length-drop}
use lib.Seq.{length-take-le}
use Rattle.std.specs.Prelude.{Err}
use Rattle.tool_editions.specs.Records.{first}
use Rattle.tool_editions.proofs.Refusing.{not_0, ok_let}
use Rattle.tool_editions.proofs.Ways.{inside, in_buffer, judged_is, refuses_as, refuses_it, puts, room, left_is}
use Rattle.tool_editions.proofs.append.Goals as goal

pub returns-in_err-before : goal.returns-in_err-before
returns-in_err-before c =
    let told : c.from_residual.result ≡ Err c.in_err-before.field-0.0 = search rules in
    rw told (refuses_as c.args.buf.now c.args.used c.args.r (sym c.in_err-before.was ∙ c.read_used.ensures))

pub overflow_sub-fits : goal.overflow_sub-fits
overflow_sub-fits c = inside c.args.buf.now c.args.used (sym c.in_ok-before.was ∙ c.read_used.ensures)

pub slice_bounds-judged-end : goal.slice_bounds-judged-end
slice_bounds-judged-end c = inside c.args.buf.now c.args.used (sym c.in_ok-before.was ∙ c.read_used.ensures)

pub slice_bounds-judged-end-2 : goal.slice_bounds-judged-end-2
slice_bounds-judged-end-2 c =
    sym (length-take-le c.args.used c.args.buf.now (inside c.args.buf.now c.args.used (sym c.in_ok-before.was ∙ c.read_used.ensures)))

pub returns-in_err-judged : goal.returns-in_err-judged
returns-in_err-judged c =
    let start = c.args in
    let b = start.buf.now in
    let told : c.from_residual-in_err-judged.result ≡ Err c.in_err-judged.field-0.0 = search rules in
    let e = sym c.in_ok-before.was ∙ c.read_used.ensures in
    rw told
    (refuses_it b start.used start.r (in_buffer b start.used e)
    (rw c.size-size.ensures (left_is _ start.used (length b) (inside b start.used e)))
    (rw c.in_err-judged.was at c.judged.ensures ∙ judged_is b start.used e _ start.r)
    (not_0 c.in_err-judged.field-0.0))

pub put-requires : goal.put-requires
put-requires c =
    let start = c.args in
    let h = c.in_ok-before.before in
    let fits : c.size-size.result ≤ length start.buf.now - start.used =
    room h.last h.count c.size-size.result (length start.buf.now - start.used)
    (first h.count (take start.used start.buf.now)) start.r c.judged.ensures (ok_let c.in_ok-judged.was) in
    simp (length-take, length-drop) (omega (arith, fits, c.size-size.ensures))

pub overflow_add-result : goal.overflow_add-result
overflow_add-result c =
    let start = c.args in
    let h = c.in_ok-before.before in
    let fits : c.size-size.result ≤ length start.buf.now - start.used =
    room h.last h.count c.size-size.result (length start.buf.now - start.used)
    (first h.count (take start.used start.buf.now)) start.r c.judged.ensures (ok_let c.in_ok-judged.was) in
    omega (arith, fits, c.well_formed, inside start.buf.now start.used (sym c.in_ok-before.was ∙ c.read_used.ensures))

pub returns : goal.returns
returns c =
    let start = c.args in
    let b = start.buf.now in
    let e = sym c.in_ok-before.was ∙ c.read_used.ensures in
    puts b start.used start.r (in_buffer b start.used e)
    (rw c.size-size.ensures (left_is _ start.used (length b) (inside b start.used e)))
    (c.judged.ensures ∙ judged_is b start.used e _ start.r)
    (ok_let c.in_ok-judged.was) c.size-size.ensures c.put.ensures
