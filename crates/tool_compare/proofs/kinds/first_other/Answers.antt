use native.Mathlib.Omega.{arith}
use Rattle.tool_compare.proofs.Beginning.{stride_bounds, looking_starts, there, looks_on, stops_at, all_begin}
use Rattle.tool_compare.proofs.kinds.first_other.Goals as goal

pub loop-i-init : goal.loop-i-init
loop-i-init c = looking_starts c.answers_begun-n.ensures c.known_kind-is_known.ensures c.stride_of-bytes.ensures

pub bounds-log-at : goal.bounds-log-at
bounds-log-at c = there c.loop-i.invariant c.loop-i-test.true

pub returns-then-not-is_known-log : goal.returns-then-not-is_known-log
returns-then-not-is_known-log c = stops_at c.loop-i.invariant c.loop-i-test.true c.if-not-is_known-log.true

pub overflow_add-at : goal.overflow_add-at
overflow_add-at c =
    let loop = c.loop-i in
    omega (arith, there loop.invariant c.loop-i-test.true, loop.invariant.bytes_is, stride_bounds c.args.kind, c.well_formed)

pub loop-i-preserved : goal.loop-i-preserved
loop-i-preserved c = looks_on c.loop-i.invariant c.loop-i-test.true c.if-not-is_known-log.false

pub returns : goal.returns
returns c = all_begin c.loop-i.invariant c.loop-i-test.false
