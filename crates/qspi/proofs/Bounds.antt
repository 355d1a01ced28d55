-- Bounds of an entry's numbers, for every register word and command byte.
use mathlib.Core.Bool.{Bool, true, false, cond}
use Prim.Native.Nat.{ℕ, zero, suc, ◌≤◌, ◌*◌}
use native.Mathlib.Omega.{arith}
use lib.Dec.{eqb}
use borrow.Author.Tests.{ne_eqb}
use Rattle.qspi.specs.model.Fields.{bitse, bits_field, spbr, dsck, dsckl, dt, dtl, zero_means, bits_of, pre_delay, delay_after}

cond_le : (b : Bool) (x y m : ℕ) → x ≤ m → y ≤ m → cond b x y ≤ m
cond_le true x y m h k = h
cond_le false x y m h k = k

-- At most 16 bits.
pub bits_small : (spcr0 command : ℕ) → bits_of spcr0 command ≤ 16
unfolding bits_of
bits_small spcr0 command =
    cond_le (bitse command) _ _ 16 (cond_le (eqb (bits_field spcr0) 0) _ _ 16 (omega arith) (omega arith)) (omega arith)

cond_ge : (b : Bool) (x y m : ℕ) → m ≤ x → m ≤ y → m ≤ cond b x y
cond_ge true x y m h k = h
cond_ge false x y m h k = k

zero_means_pos : (other x : ℕ) → 1 ≤ other → 1 ≤ zero_means other x
zero_means_pos other zero h = h
zero_means_pos other (suc x) h = rw (ne_eqb (suc x) 0 (λ e. omega arith)) (omega arith)

zero_means_32 : (x : ℕ) → 17 ≤ zero_means 8192 (32 * x)
zero_means_32 zero = omega arith
zero_means_32 (suc x) =
    rw (ne_eqb (32 * suc x) 0 (λ e. omega arith)) (omega arith)

-- At least one bit.
pub bits_pos : (spcr0 command : ℕ) → 1 ≤ bits_of spcr0 command
unfolding bits_of
bits_pos spcr0 command =
    cond_ge (bitse command) _ _ 1 (zero_means_pos 16 (bits_field spcr0) (omega arith)) (omega arith)

-- At least one clock of pre-delay.
pub pre_pos : (spcr0 spcr1 command : ℕ) → 1 ≤ spbr spcr0 → 1 ≤ pre_delay spcr0 spcr1 command
unfolding pre_delay
pre_pos spcr0 spcr1 command h =
    cond_ge (dsck command) _ _ 1 (zero_means_pos 128 (dsckl spcr1) (omega arith)) h

-- At least seventeen clocks of delay.
pub delay_pos : (spcr1 command : ℕ) → 17 ≤ delay_after spcr1 command
unfolding delay_after
delay_pos spcr1 command =
    cond_ge (dt command) _ _ 17 (zero_means_32 (dtl spcr1)) (omega arith)

-- At most 255 clocks of pre-delay, and 8,192 of delay.
pub pre_small : (spcr0 spcr1 command : ℕ) → pre_delay spcr0 spcr1 command ≤ 255
unfolding pre_delay
pre_small spcr0 spcr1 command =
    cond_le (dsck command) _ _ 255 (cond_le (eqb (dsckl spcr1) 0) _ _ 255 (omega arith) (omega arith)) (omega arith)

pub delay_small : (spcr1 command : ℕ) → delay_after spcr1 command ≤ 8192
unfolding delay_after
delay_small spcr1 command =
    cond_le (dt command) _ _ 8192 (cond_le (eqb (32 * dtl spcr1) 0) _ _ 8192 (omega arith) (omega arith))
    (omega arith)
