use Prim.Native.Nat.{◌≤◌}
use native.Mathlib.Nat.{mul-le-mul}
use native.Mathlib.Omega.{arith}
use Rattle.qspi.proofs.Bounds.{bits_small}
use Rattle.qspi.proofs.entry.Entry.until_last.Goals as goal

pub overflow_mul-bits_of : goal.overflow_mul-bits_of
overflow_mul-bits_of c = omega (arith, c.bits_of.ensures, bits_small c.args.spcr0 c.args.self.command)

pub returns : goal.returns
returns c =
    let start = c.args in
    let few : c.saturating_sub-edges.result ≤ 32 =
    omega (arith, c.saturating_sub-edges.ensures, c.bits_of.ensures, bits_small start.spcr0 start.self.command) in
    let least : c.spbr.result ≤ 255 = omega (arith, c.spbr.ensures) in
    mul-le-mul few least

pub overflow_mul-result : goal.overflow_mul-result
overflow_mul-result c = omega (arith, returns c)
