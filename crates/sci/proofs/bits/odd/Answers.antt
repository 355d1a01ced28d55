use Prim.Native.Nat.{◌%◌}
use mathlib.Core.Path.{◌≡◌}
use native.Mathlib.Omega.{arith}
use Rattle.sci.proofs.ParityTable.{by_two}
use Rattle.sci.proofs.bits.odd.Goals as goal

pub returns-then-w-lt512 : goal.returns-then-w-lt512
returns-then-w-lt512 c =
    let w = c.args.w in
    let nine : w % 512 ≡ w = omega (arith, c.if-w-lt512.true) in
    rw (c.odd_of_nine.ensures, nine)

pub returns-else-w-lt512 : goal.returns-else-w-lt512
returns-else-w-lt512 c =
    rw (c.odd_of_nine-else-w-lt512.ensures, c.odd_of_nine-else-w-lt512-2.ensures) (by_two c.args.w (omega arith))
