use mathlib.Core.Path.{◌≡◌, ap}
use mathlib.Core.List.{[], ◌∷◌}
use Prim.Native.Nat.{ℕ}
use native.Mathlib.Omega.{arith}
use native.Mathlib.Nat.{mod-lt}
use borrow.Author.Tests.{ne_eqb}
use Rattle.text.specs.Digits.{decimal}
use Rattle.text.specs.Line.{puts}
use Rattle.text.proofs.Puts.{put_puts}
use Rattle.text.proofs.Decimal.{decimal_one}
use Rattle.tool_wave.proofs.Nine.{parts, rest_few}
use Rattle.tool_wave.proofs.vcd.time.Goals as goal

zero-digit : decimal 29 0 ≡ 48 ∷ []
zero-digit = decimal_one 29 0 (omega arith) (omega arith)

pub returns-then-hz-eq0 : goal.returns-then-hz-eq0
returns-then-hz-eq0 c = rw (c.put.ensures, c.if-hz-eq0.true, put_puts, zero-digit)

pub overflow_mul-n : goal.overflow_mul-n
overflow_mul-n c = omega (arith, mod-lt c.args.n {m = c.args.hz} (omega (arith, c.if-hz-eq0.false)))

pub whole-requires : goal.whole-requires
whole-requires c = rest_few c.args.hz c.args.n (omega (arith, c.if-hz-eq0.false))

pub returns : goal.returns
returns c =
    let args = c.args in
    rw (c.whole.ensures, ne_eqb _ _ c.if-hz-eq0.false)
    (ap (λ (x : ℕ). puts args.line (decimal 29 x)) (parts args.hz args.n (omega (arith, c.if-hz-eq0.false))))
