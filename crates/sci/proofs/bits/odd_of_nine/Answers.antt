use Prim.Native.Nat.{◌%◌}
use native.Mathlib.Omega.{arith}
use lib.Count.{ones, ones_in}
use Rattle.sci.proofs.ParityTable.{parity_of, by_table}
use Rattle.sci.proofs.bits.odd_of_nine.Goals as goal

pub returns : goal.returns
unfolding parity_of ones ones_in
returns c = by_table 512 (c.args.w % 512) (omega arith)
