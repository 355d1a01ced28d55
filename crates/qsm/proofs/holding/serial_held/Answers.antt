use Prim.Native.Nat.{suc, ◌-◌}
use mathlib.Core.Bool.{true}
use mathlib.Core.Path.{◌≡◌, sym, ◌∙◌}
use native.Mathlib.Omega.{arith}
use lib.Dec.{eqb}
use borrow.Author.Tests.{eqb-true}
use Rattle.sci.specs.quick.Quiet.{quiet, rests}
use Rattle.sci.proofs.Quiet.{skips}
use Rattle.sci.proofs.Plain.{first, second}
use Rattle.qsm.proofs.Brief.{quiet_count, one_sample}
use Rattle.qsm.proofs.holding.serial_held.Goals as goal

pub returns-then-n-k : goal.returns-then-n-k
returns-then-n-k c =
    let a = c.args in
    rw c.skipped-t.ensures
    (quiet_count a.n a.s
    ∙ sym (skips a.n a.s a.rxd (omega arith) (omega (arith, c.quiet-k.ensures, c.if-n-k.true))))

pub returns-then-n-k-2 : goal.returns-then-n-k-2
returns-then-n-k-2 c =
    let k = c.quiet-k in
    let a = c.args in
    let one : a.n - k.result ≡ 1 = eqb-true (a.n - k.result) 1 (first (eqb (a.n - k.result) 1) c.rests.result c.if-n-k-2.true) in
    let is : a.n ≡ suc (quiet a.s) = omega (arith, one, k.ensures) in
    let rest : rests a.s a.rxd ≡ true = sym c.rests.ensures ∙ second (eqb (a.n - k.result) 1) c.rests.result c.if-n-k-2.true in
    one_sample a.n a.s a.rxd (omega arith) (omega arith) is rest
