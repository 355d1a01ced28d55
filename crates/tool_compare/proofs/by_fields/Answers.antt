use Prim.Native.Nat.{◌*◌, ◌≤◌}
use native.Mathlib.Omega.{arith}
use lib.ListN.{length}
use Rattle.tool_compare.proofs.Ways.{common_within, cut_first, cut_second, short, enough, refuses, reports_second, reports_first}
use Rattle.tool_compare.proofs.by_fields.Goals as goal

pub returns-then-a-bytes-ne0 : goal.returns-then-a-bytes-ne0
returns-then-a-bytes-ne0 c =
    refuses _ c.args.b.now _ c.args.a.ref_ptr c.args.b.ref_ptr c.min-start.ensures
    (cut_first _ _ _ _ c.requires.1 c.if-a-bytes-ne0.true)

pub returns-then-b-bytes-ne0 : goal.returns-then-b-bytes-ne0
returns-then-b-bytes-ne0 c =
    refuses _ c.args.b.now _ c.args.a.ref_ptr c.args.b.ref_ptr c.min-start.ensures
    (cut_second _ _ _ _ c.requires.1 c.if-a-bytes-ne0.false c.if-b-bytes-ne0.true)

pub differences-differ-requires : goal.differences-differ-requires
differences-differ-requires c = rw c.min-n.ensures (common_within c.args.bytes c.args.a.now c.args.b.now)

pub returns-then-list-differ : goal.returns-then-list-differ
returns-then-list-differ c =
    refuses _ c.args.b.now _ c.args.a.ref_ptr c.args.b.ref_ptr c.min-start.ensures
    (short _ _ _ _ c.requires.1 c.if-a-bytes-ne0.false c.if-b-bytes-ne0.false c.min-n.ensures c.differences-differ.ensures c.if-list-differ.true)

pub write-requires : goal.write-requires
write-requires c =
    let pre = c.requires in
    let n_is = c.min-n.ensures in
    let h : (c.min-n.result * c.args.bytes ≤ length c.args.a.now) × (c.min-n.result * c.args.bytes ≤ length c.args.b.now) =
    rw n_is (common_within c.args.bytes c.args.a.now c.args.b.now) in
    record { k_bound = (pre.0, pre.1, h.0, h.1); n_in_bounds = omega (arith, c.differences-differ.ensures) }

pub returns-then-a-b : goal.returns-then-a-b
returns-then-a-b c =
    reports_second _ _ _ c.args.a.ref_ptr c.args.b.ref_ptr c.min-start.ensures
    _ c.args.bytes c.min-n.result
    (enough _ _ _ _ c.requires.1 c.if-a-bytes-ne0.false c.if-b-bytes-ne0.false c.min-n.ensures c.differences-differ.ensures c.if-list-differ.false)
    c.write.ensures c.differences-differ.ensures c.if-a-b.true

pub returns : goal.returns
returns c =
    reports_first _ _ _ c.args.a.ref_ptr c.args.b.ref_ptr c.min-start.ensures
    _ c.args.bytes c.min-n.result
    (enough _ _ _ _ c.requires.1 c.if-a-bytes-ne0.false c.if-b-bytes-ne0.false c.min-n.ensures c.differences-differ.ensures c.if-list-differ.false)
    c.write.ensures c.differences-differ.ensures c.if-a-b.false
