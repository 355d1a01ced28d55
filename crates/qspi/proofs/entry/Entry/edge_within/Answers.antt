use native.Mathlib.Omega.{arith}
use Rattle.qspi.proofs.Bounds.{bits_small}
use Rattle.qspi.proofs.entry.Entry.edge_within.Goals as goal

pub overflow_mul-early : goal.overflow_mul-early
overflow_mul-early c = omega (arith, c.bits_of.ensures, bits_small c.args.spcr0 c.args.self.command)

pub returns : goal.returns
returns c = rw (c.until_edge.ensures, c.bits_of.ensures)
