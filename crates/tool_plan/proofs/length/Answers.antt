use native.Mathlib.Omega.{arith}
use Rattle.qspi.proofs.Marked.{k9}
use Rattle.tool_plan.proofs.length.Goals as goal

pub overflow_add-result : goal.overflow_add-result
overflow_add-result c =
    let args = c.args in
    omega (arith, c.delay_after.ensures, c.last_clock.ensures, k9.0 args.spcr0 args.spcr1 args.command)
