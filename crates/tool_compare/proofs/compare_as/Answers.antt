use mathlib.Core.Path.{refl}
use Rattle.tool_compare.proofs.Beginning.{stride_positive, few_fields}
use Rattle.tool_compare.proofs.Ways.{other_kind_holds, one_kind, refuses}
use Rattle.tool_compare.proofs.compare_as.Goals as goal

pub returns-then-mixed : goal.returns-then-mixed
returns-then-mixed c =
    let args = c.args in
    refuses _ args.b.now _ args.a.ref_ptr args.b.ref_ptr c.min-start.ensures
    (other_kind_holds _ _ _ _ (rw (c.mixed.ensures, c.mixed-2.ensures) at c.if-mixed.true))

pub by_fields-requires : goal.by_fields-requires
by_fields-requires c =
    let kind = c.args.kind in
    rw (c.stride_of.ensures, c.fields_of.ensures)
    (few_fields kind, refl, stride_positive kind)

pub returns : goal.returns
returns c =
    let args = c.args in
    let is = one_kind args.kind args.a.now args.b.now args.list.now
    (rw (c.mixed.ensures, c.mixed-2.ensures) at c.if-mixed.false) in
    rw is (rw c.fields_of.ensures at c.by_fields.ensures)
