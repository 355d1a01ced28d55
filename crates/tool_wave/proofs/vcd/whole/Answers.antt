use Prim.Native.Nat.{ℕ, ◌+◌, ◌*◌}
use Rattle.text.specs.Digits.{decimal}
use mathlib.Core.Path.{◌≡◌, sym, ap}
use native.Mathlib.Omega.{arith}
use Rattle.text.specs.Line.{puts}
use Rattle.text.proofs.Puts.{puts_append}
use Rattle.tool_wave.proofs.Nine.{joined}
use borrow.Author.Rules.{rules}
use Rattle.tool_wave.proofs.vcd.whole.Goals as goal

pub returns-then-seconds-eq0 : goal.returns-then-seconds-eq0
returns-then-seconds-eq0 c =
    let args = c.args in
    let same : args.rest ≡ args.seconds * 1000000000 + args.rest = omega (arith, c.if-seconds-eq0.true) in
    rw c.decimal.ensures (ap (λ (x : ℕ). puts args.line (decimal 29 x)) same)

pub returns : goal.returns
returns c =
    rw (c.nine.ensures, c.decimal-2.ensures, puts_append)
    (ap (puts _) (sym (joined _ _ (omega (arith, c.if-seconds-eq0.false)) (search rules))))
