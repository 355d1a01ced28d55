-- A converter's register at an edge of SCK, and the edges of an entry in order. Assumes nothing.
use mathlib.Core.Path.{◌≡◌, refl, subst}
use mathlib.Core.Bool.{Bool, true, false, cond, not, ◌&&◌, and-false}
use Prim.Native.Nat.{ℕ, zero, suc, ◌+◌, ◌-◌, ◌*◌, ◌%◌, ◌^◌, ◌≤◌, ◌<◌}
use native.Mathlib.Nat.{suc-mul}
use native.Mathlib.Omega.{arith}
use Rattle.steps.specs.Bits.{digit}
use Rattle.qspi.specs.model.Fields.{spbr, pre_delay}
use Rattle.qspi.proofs.Bounds.{pre_pos}
use Rattle.qsm.specs.claims.PinClauses.{high}
use Rattle.qsm.specs.declared.event.Answer.{Answer}
use Rattle.qsm.proofs.Booleans.{on}
use Rattle.tool_plan.specs.Check.{bits_no, command_no, clock_before}
use Rattle.tool_plan.specs.Accepted.{Accepted}
use Rattle.tool_plan.specs.Running.{start_of, edge_no}
use Rattle.tool_plan.specs.declared.SetPoints.{SetPoints}
use Rattle.tool_plan.specs.declared.Plan.{Plan}
use Rattle.claims_plans.specs.Converter.{Converter, same, chosen, at_rest, reads, at_edge, shifted}

-- ---- levels

pub same_itself : (b : Bool) → same b b ≡ true
same_itself true = refl
same_itself false = refl

pub same_other : (b : Bool) → same (not b) b ≡ false
same_other true = refl
same_other false = refl

-- SCK as it was: no reading edge.
no_read : (phase rests : Bool) → cond phase (not rests && rests) (rests && not rests) ≡ false
no_read true true = refl
no_read true false = refl
no_read false true = refl
no_read false false = refl

pub leads : (b : Bool) → same b b && not (same (not b) b) ≡ true
leads true = refl
leads false = refl

pub comes_back : (b : Bool) → not (same (not b) b) && same b b ≡ true
comes_back true = refl
comes_back false = refl

module _ (v : Converter) (before now : Answer) (r : ℕ) where
  pub kept : high now 2 ≡ high before 2 → shifted v before now r ≡ r
  kept e = rw (e, no_read v.phase (same (high before 2) v.polarity))

  -- The other edge: with CPHA=0 SCK was away, with CPHA=1 it was at rest.
  pub other_edge : at_rest v before ≡ v.phase → shifted v before now r ≡ r
  other_edge e = on v.phase (λ p. rw (p, rw p at e)) (λ p. rw (p, rw p at e))

  pub not_taken : chosen v.select (at_edge v before now) ≡ false → shifted v before now r ≡ r
  not_taken h = rw (h, and-false (reads v before now))

  pub taken : (b : Bool) → reads v before now ≡ true → chosen v.select (at_edge v before now) ≡ true → high (at_edge v before now) 1 ≡ b →
      shifted v before now r ≡ (r * 2 + digit b) % 2 ^ v.bits
  taken b x y z = rw (x, y, z)

-- ---- the edges of an entry

module _ (p : Plan) (rate : 2 ≤ spbr p.spcr0) (k : ℕ) where
  abbrev pre : ℕ
  pre = pre_delay p.spcr0 p.spcr1 (command_no p k)

  pub grows : (j : ℕ) → edge_no p k j < edge_no p k (suc j)
  grows zero = omega (arith, pre_pos p.spcr0 p.spcr1 (command_no p k) (omega arith))
  grows (suc j) = omega (arith, suc-mul j (spbr p.spcr0))

  later_by : (j d : ℕ) → edge_no p k j ≤ edge_no p k (j + d)
  later_by j zero = let sum : j + 0 ≡ j = omega arith in rw sum (omega arith)
  later_by j (suc d) = let sum : j + suc d ≡ suc (j + d) = omega arith in rw sum (omega (arith, later_by j d, grows (j + d)))

  pub in_order : (i j : ℕ) → i ≤ j → edge_no p k i ≤ edge_no p k j
  in_order i j less = let sum : i + (j - i) ≡ j = omega arith in subst (λ (m : ℕ). edge_no p k i ≤ edge_no p k m) sum (later_by i (j - i))

-- The entry's last edge falls before the next entry.
pub edge_in : (s : SetPoints) (window : ℕ) (p : Plan) (a : Accepted s window p) (k : ℕ) → k < s.count →
    edge_no p k (bits_no s k * 2) ≤ start_of p (suc k)
unfolding clock_before
edge_in s window p a k less =
    subst (λ (n : ℕ). edge_no p k (n * 2) ≤ start_of p (suc k)) (a.carries k less).bits (omega arith)
