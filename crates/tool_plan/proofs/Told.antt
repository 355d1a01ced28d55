-- The laws of what a host is told, by those of the planner. Assumes nothing.
use mathlib.Core.Path.{◌≡◌, refl, ap}
use mathlib.Core.Bool.{true}
use Prim.Native.Nat.{ℕ, ◌≤◌, ◌<◌}
use native.Mathlib.Omega.{arith}
use Rattle.std.specs.Prelude.{Option, Some, None, MatchOption}
use Rattle.tool_plan.specs.Check.{accepts}
use Rattle.tool_plan.specs.Quickest.{answered, no_plan, planned, changed_at, revised}
use Rattle.tool_plan.specs.Told.{told, ToHosts}
use Rattle.tool_plan.specs.declared.SetPoints.{SetPoints}
use Rattle.tool_plan.specs.declared.Plan.{Plan}
use Rattle.tool_plan.proofs.Planning.{gives, sound, refuses, least, any_window, revises}

clock_told : (n : ℕ) (o : Option Plan) → MatchOption o ⊥ (λ p. p.clock ≤ n) → (answered o).plan.clock ≤ n
clock_told n (Some p) h = h
clock_told n None h = absurd h

-- A refusal 0 comes of a plan.
module _ (s : SetPoints) (window : ℕ) where
  accepted : (o : Option Plan) → ((p : Plan) → o ≡ Some p → accepts s window p ≡ true) → (answered o).refusal ≡ 0
      → accepts s window (answered o).plan ≡ true
  accepted (Some p) is h = is p refl
  accepted None is h = let z : ◌≡◌ {A = ℕ} 11 0 = h in absurd (omega (arith, z))

  in_windows : (later : ℕ) (o : Option Plan) → planned s window ≡ o → (answered o).refusal ≡ 0
      → ((answered o).plan.clock ≤ later → told s later ≡ answered o) × (later < (answered o).plan.clock → told s later ≡ no_plan)
  in_windows later (Some p) is h =
      let all : (p.clock ≤ later → planned s later ≡ Some p) × (later < p.clock → planned s later ≡ None) = any_window s window later p is in
      ((λ enough. ap answered (all.0 enough)), (λ short. ap answered (all.1 short)))
  in_windows later None is h = let z : ◌≡◌ {A = ℕ} 11 0 = h in absurd (omega (arith, z))

pub to_hosts : ToHosts
to_hosts =
    record {
      sound = λ s window. accepted s window (planned s window) (λ p. sound s window p);
      complete = λ s window p h. ap (λ (o : Option Plan). (answered o).refusal) (gives s window p h);
      refuses = λ s window none. (refuses s window none).1;
      eleven = refl;
      least = λ s window p h. clock_told p.clock (planned s window) (least s window p h);
      any_window = λ s window later. in_windows s window later (planned s window) refl;
      revises = λ s window p spcr0 spcr1.
          let both = revises s window p spcr0 spcr1 in
          (accepted s window (revised s window p spcr0 spcr1) both.0, (λ clock h. ap answered (both.1 clock h)));
    }
