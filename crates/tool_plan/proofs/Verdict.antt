-- The ways out of the checker, the clock of an edge, and the bound of a plan's clocks. Assumes nothing.
use mathlib.Core.Path.{◌≡◌, ap}
use mathlib.Core.Bool.{Bool, true, false, ◌&&◌, and-false}
use mathlib.Core.List.{List}
use Prim.Native.Nat.{ℕ, zero, suc, ◌+◌, ◌-◌, ◌*◌, ◌≤◌, ◌<◌}
use native.Mathlib.Omega.{arith}
use lib.Dec.{eqb, leb}
use lib.ListN.{get_or}
use borrow.Author.Tests.{eq-eqb, ne_eqb}
use Rattle.qspi.specs.claims.Run.{edge_at}
use Rattle.qspi.proofs.Marked.{k9}
use Rattle.tool_plan.specs.Check.{each, proper, carried, pointed, allowed, clock_before, last_edge, accepts}
use Rattle.tool_plan.specs.declared.SetPoints.{SetPoints}
use Rattle.tool_plan.specs.declared.Plan.{Plan}

-- The clock of edge j as a formula.
pub edge_formula : (p s j : ℕ) → 0 < j → edge_at p s j ≡ p + (j - 1) * s
edge_formula p s zero h = absurd (omega arith)
edge_formula p s (suc j) h = let e : suc j - 1 ≡ j = omega arith in rw e

-- No entry is longer than 16,352 clocks.
pub before_small : (spcr0 spcr1 : ℕ) (commands : List ℕ) (k : ℕ) → clock_before spcr0 spcr1 commands k ≤ 16352 * k
unfolding clock_before
before_small spcr0 spcr1 commands zero = omega arith
before_small spcr0 spcr1 commands (suc k) =
    omega (arith, before_small spcr0 spcr1 commands k, k9.0 spcr0 spcr1 (get_or commands k 0))

module _ (s : SetPoints) (window : ℕ) (p : Plan) where
  pub not_proper : proper s ≡ false → accepts s window p ≡ false
  unfolding accepts
  not_proper h = rw h

  pub other_number : (p.count ≡ s.count → ⊥) → accepts s window p ≡ false
  unfolding accepts
  other_number h = simp (ne_eqb p.count s.count h, and-false)

  abbrev rest : ℕ → Bool
  rest n = each s.count (carried s p) && pointed p && allowed p && eqb p.clock (last_edge p (n - 1)) && leb p.clock window

  pub judged : proper s ≡ true → p.count ≡ s.count → accepts s window p ≡ rest s.count
  unfolding accepts
  judged h e = rw (h, eq-eqb p.count s.count e) (ap rest e)
