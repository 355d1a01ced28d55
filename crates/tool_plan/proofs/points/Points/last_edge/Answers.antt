use native.Mathlib.Omega.{arith}
use Prim.Native.Nat.{◌-◌}
use lib.ListN.{get_or}
use Rattle.qspi.proofs.Marked.{k9}
use Rattle.tool_plan.proofs.Verdict.{before_small}
use Rattle.tool_plan.proofs.points.Points.last_edge.Goals as goal

pub overflow_add-clocks : goal.overflow_add-clocks
overflow_add-clocks c =
    let p = c.args.plan in
    let loop = c.loop-k in
    omega (
      arith,
      c.length-clocks.ensures,
      loop.invariant,
      k9.0 p.spcr0 p.spcr1 (get_or p.commands loop.k 0),
      k9.0 p.spcr0 p.spcr1 (get_or p.commands (c.from-last.result - 1) 0),
      before_small p.spcr0 p.spcr1 p.commands loop.k,
    )
