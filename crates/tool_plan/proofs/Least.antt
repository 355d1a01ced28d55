-- The quickest entry, and the lengths of any: pre-delay, edges and delay each at its least. Assumes nothing.
use mathlib.Core.Path.{◌≡◌}
use mathlib.Core.Bool.{true, false}
use Prim.Native.Nat.{ℕ, ◌+◌, ◌-◌, ◌*◌, ◌/◌, ◌%◌, ◌≤◌, ◌<◌}
use native.Mathlib.Nat.{mul-le-mul_left}
use native.Mathlib.Omega.{arith}
use Rattle.qspi.specs.model.Fields.{spbr, dsck, dt, pcs_field, bits_of, pre_delay, delay_after}
use Rattle.qspi.specs.claims.Run.{edge_at, last_clock_of}
use Rattle.qspi.proofs.Bounds.{bits_pos, pre_pos}
use Rattle.tool_plan.proofs.Verdict.{edge_formula}

-- The least clock of edge 2n.
abbrev pub least_edge : ℕ → ℕ
least_edge n = 1 + (n * 2 - 1) * 2

edge_least : (p s j : ℕ) → 0 < j → 1 ≤ p → 2 ≤ s → 1 + (j - 1) * 2 ≤ edge_at p s j
edge_least p s j h a b = rw (edge_formula p s j h) (omega (arith, mul-le-mul_left (j - 1) b))

pub last_least : (spcr0 spcr1 command : ℕ) → 2 ≤ spbr spcr0 →
    least_edge (bits_of spcr0 command) ≤ last_clock_of spcr0 spcr1 command
last_least spcr0 spcr1 command h =
    edge_least (pre_delay spcr0 spcr1 command) (spbr spcr0) (bits_of spcr0 command * 2) (omega (arith, bits_pos spcr0 command))
    (pre_pos spcr0 spcr1 command (omega arith)) h

-- A command with BITSE or without: 64 or 0 above DSCK and the select.
module _ (e select : ℕ) (is : e % 64 ≡ 0) where
  pub quick_select : pcs_field (e + 16 + select % 16) ≡ select % 16
  quick_select = omega arith

  quick_dsck : dsck (e + 16 + select % 16) ≡ true
  quick_dsck = let one : (e + 16 + select % 16) / 16 % 2 ≡ 1 = omega arith in rw one

  quick_dt : dt (e + 16 + select % 16) ≡ false
  quick_dt = let none : (e + 16 + select % 16) / 32 % 2 ≡ 0 = omega arith in rw none

  pub quick_pre : (spcr0 : ℕ) → pre_delay spcr0 0x8100 (e + 16 + select % 16) ≡ 1
  unfolding pre_delay
  quick_pre spcr0 = rw quick_dsck

  pub quick_delay : delay_after 0x8100 (e + 16 + select % 16) ≡ 17
  unfolding delay_after
  quick_delay = rw quick_dt
