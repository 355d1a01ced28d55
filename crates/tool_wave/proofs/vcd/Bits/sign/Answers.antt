use mathlib.Core.Path.{◌≡◌}
use Prim.Native.Nat.{ℕ, ◌%◌}
use native.Mathlib.Nat.{div-one}
use native.Mathlib.Omega.{arith}
use borrow.Author.Tests.{not-true, not-false}
use Rattle.tool_wave.proofs.vcd.Bits.sign.Goals as goal

odd : (n : ℕ) → (n % 2 ≡ 0 → ⊥) → n % 2 ≡ 1
odd n h = omega arith

pub returns-then-not-self : goal.returns-then-not-self
returns-then-not-self c = rw (not-true c.args.self.known c.if-not-self.true)

pub returns-then-self-eq0 : goal.returns-then-self-eq0
returns-then-self-eq0 c =
    simp div-one (rw (c.if-self-eq0.true, not-false c.args.self.known c.if-not-self.false))

pub returns : goal.returns
returns c =
    let self = c.args.self in
    simp div-one (rw (odd _ c.if-self-eq0.false, not-false self.known c.if-not-self.false))
