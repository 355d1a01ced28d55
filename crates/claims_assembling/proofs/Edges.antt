-- The clocks of a text's bits end where the next bit begins. Assumes nothing.
use mathlib.Core.Path.{◌≡◌}
use Prim.Native.Nat.{ℕ, zero, suc, ◌+◌, ◌*◌, ◌/◌, ◌<◌, ◌≤◌}
use native.Mathlib.Nat.{div-eq_of_lt, le-div_iff_mul-le, div-mul-le_self, add-mul}
use native.Mathlib.Omega.{arith}
use borrow.Author.Tests.{ne_eqb}
use Rattle.tool_assemble.specs.Sent.{edge}
use Rattle.claims_assembling.specs.Traces.{clocks_of, EdgesKept}

below : (a b k : ℕ) → 0 < k → a ≤ b → a / k ≤ b / k
below a b k pos h = (le-div_iff_mul-le pos).1 (omega (arith, div-mul-le_self a k))

edge_rises : (baud clock k : ℕ) → 0 < baud → edge baud clock k ≤ edge baud clock (k + 1)
unfolding edge
edge_rises baud clock k pos =
    rw (ne_eqb baud 0 (λ e. omega arith))
    (below (k * clock + baud / 2) ((k + 1) * clock + baud / 2) baud pos (omega (arith, add-mul k 1 clock)))

edge_first : (baud clock : ℕ) → 0 < baud → edge baud clock 0 ≡ 0
unfolding edge
edge_first baud clock pos =
    let none : 0 * clock + baud / 2 ≡ baud / 2 = omega arith in
    let half : baud / 2 < baud = omega arith in
    rw (ne_eqb baud 0 (λ e. omega arith), none, div-eq_of_lt half)

pub edges_kept : EdgesKept
unfolding clocks_of
edges_kept s zero pos = rw (edge_first s.baud s.clock pos)
edges_kept s (suc k) pos =
    let next : suc k ≡ k + 1 = omega arith in
    rw (edges_kept s k pos, next) (omega (arith, edge_rises s.baud s.clock k pos))
