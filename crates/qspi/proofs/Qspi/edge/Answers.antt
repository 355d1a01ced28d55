use native.Mathlib.Omega.{arith}
use Rattle.qspi.specs.model.Queue.{edge}
use Rattle.qspi.proofs.Bounds.{bits_small}
use Rattle.qspi.proofs.Qspi.edge.Goals as goal

pub overflow_mul-end : goal.overflow_mul-end
overflow_mul-end c =
    omega (arith, c.bits_of.ensures, bits_small c.args.self.registers.spcr0 c.args.self.entry.command)

pub returns : goal.returns
unfolding edge
returns c = rw (c.judged.ensures, c.edge_fallen-self.ensures, c.bits_of.ensures)
