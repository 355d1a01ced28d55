use mathlib.Core.Path.{◌≡◌}
use Prim.Native.Nat.{ℕ, ◌%◌}
use native.Mathlib.Nat.{div-one}
use native.Mathlib.Omega.{arith}
use Rattle.text.proofs.Puts.{puts_none, puts_append}
use Rattle.text.proofs.line.Line.pin.Goals as goal

odd : (n : ℕ) → (n % 2 ≡ 0 → ⊥) → n % 2 ≡ 1
odd n h = omega arith

pub returns-then-mask-eq0 : goal.returns-then-mask-eq0
returns-then-mask-eq0 c = simp div-one (rw (c.if-mask-eq0.true, puts_none))

pub returns-then-levels-eq0 : goal.returns-then-levels-eq0
returns-then-levels-eq0 c =
    rw (c.write-then-levels-eq0.ensures, c.write.ensures)
    (simp div-one
    (rw (odd _ c.if-mask-eq0.false, c.if-levels-eq0.true) (simp puts_append)))

pub returns : goal.returns
returns c =
    rw (c.write-3.ensures, c.write-2.ensures)
    (simp div-one
    (rw (odd _ c.if-mask-eq0.false, odd _ c.if-levels-eq0.false) (simp puts_append)))
