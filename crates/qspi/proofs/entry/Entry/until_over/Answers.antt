use native.Mathlib.Omega.{arith}
use Rattle.qspi.proofs.Bounds.{delay_small}
use Rattle.qspi.proofs.Quiet.{until_edge_holds}
use Rattle.qspi.proofs.entry.Entry.until_over.Goals as goal

pub overflow_add-result : goal.overflow_add-result
overflow_add-result c =
    omega (
      arith,
      c.until_edge.ensures,
      until_edge_holds c.args.self,
      c.until_last.ensures,
    )

pub overflow_add-result-then-self : goal.overflow_add-result-then-self
overflow_add-result-then-self c =
    let start = c.args in
    omega (
      arith,
      c.until_edge.ensures,
      until_edge_holds start.self,
      c.until_last.ensures,
      c.delay_after-delay.ensures,
      delay_small start.spcr1 start.self.command,
    )

pub returns-then-self : goal.returns-then-self
returns-then-self c = omega (arith, c.until_edge.ensures, until_edge_holds c.args.self)

pub returns : goal.returns
returns c = omega (arith, c.until_edge-2.ensures, until_edge_holds c.args.self)
