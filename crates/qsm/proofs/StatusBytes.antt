-- A read touches a status register where one of its bytes is the register's. Assumes nothing.
use mathlib.Core.Path.{◌≡◌, refl}
use mathlib.Core.Bool.{Bool, true, false}
use Prim.Native.Nat.{ℕ, zero, suc, ◌+◌, ◌-◌, ◌<◌}
use native.Mathlib.Omega.{arith}
use lib.Dec.{eqb, ltb, leb}
use borrow.Author.Tests.{lt-ltb, ltb-true, eqb-true, eq-eqb, leb-true, leb-false}
use Rattle.sci.proofs.Membership.{and_left, and_right}
use Rattle.qsm.specs.model.Lanes.{touches}
use Rattle.qsm.specs.model.Decision.{permits, admitted, decide_read}
use Rattle.qsm.specs.claims.StatusFlags.{Half, SCI, QSPI}
use Rattle.qsm.specs.claims.SeenClauses.{status_byte}
use Rattle.qsm.specs.declared.state.Module.{Module}
use Rattle.qsm.proofs.Booleans.{both, left_or, right_or, one_of, on, clash}

abbrev pub touched : Half → ℕ → ℕ → Bool
touched SCI w o = touches 0x0C 2 w o
touched QSPI w o = touches 0x1F 1 w o

pub touched_at : (h : Half) (w o b : ℕ) → b < w → status_byte h (o + b) ≡ true → touched h w o ≡ true
touched_at SCI w o b less here =
    one_of (eqb (o + b) 0x0C) (eqb (o + b) 0x0D) here
    (λ e. let at : o + b ≡ 0x0C = eqb-true (o + b) 0x0C e in
    both (ltb o 0x0E) (ltb 0x0C (o + w)) (lt-ltb o 0x0E (omega arith)) (lt-ltb 0x0C (o + w) (omega arith)))
    (λ e. let at : o + b ≡ 0x0D = eqb-true (o + b) 0x0D e in
    both (ltb o 0x0E) (ltb 0x0C (o + w)) (lt-ltb o 0x0E (omega arith)) (lt-ltb 0x0C (o + w) (omega arith)))
touched_at QSPI w o b less here =
    let at : o + b ≡ 0x1F = eqb-true (o + b) 0x1F here in
    both (ltb o 0x20) (ltb 0x1F (o + w)) (lt-ltb o 0x20 (omega arith)) (lt-ltb 0x1F (o + w) (omega arith))

pub byte_at : (h : Half) (w o : ℕ) → 0 < w → touched h w o ≡ true → (b : ℕ) × (b < w) × (status_byte h (o + b) ≡ true)
byte_at SCI w o some t =
    let below : o < 0x0E = ltb-true o 0x0E (and_left (ltb o 0x0E) (ltb 0x0C (o + w)) t) in
    let above : 0x0C < o + w = ltb-true 0x0C (o + w) (and_right (ltb o 0x0E) (ltb 0x0C (o + w)) t) in (
      0x0C - o,
      omega arith,
      on (leb o 0x0C)
          (λ e. left_or _ _ (eq-eqb (o + (0x0C - o)) 0x0C (omega (arith, leb-true o 0x0C e))))
          (λ e. right_or (eqb (o + (0x0C - o)) 0x0C) _ (eq-eqb (o + (0x0C - o)) 0x0D (omega (arith, leb-false o 0x0C e)))),
    )
byte_at QSPI w o some t =
    let below : o < 0x20 = ltb-true o 0x20 (and_left (ltb o 0x20) (ltb 0x1F (o + w)) t) in
    let above : 0x1F < o + w = ltb-true 0x1F (o + w) (and_right (ltb o 0x20) (ltb 0x1F (o + w)) t) in (
      0x1F - o,
      omega arith,
      eq-eqb (o + (0x1F - o)) 0x1F (omega arith),
    )

-- A permitted read has a width.
pub some_width : (m : Module) (s : Bool) (w o : ℕ) → permits (decide_read m s w o) ≡ true → 0 < w
unfolding decide_read admitted
some_width m s zero o h = clash false refl h
some_width m s (suc w) o h = omega arith
