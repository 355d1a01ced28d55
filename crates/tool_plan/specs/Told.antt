-- Document 02, L10: the planner's laws once more, of what a host is told: a plan with refusal 0, or refusal 11 and zeros.
use Rattle.std.specs.Prelude.{◌≡◌, true, ℕ, ◌≤◌, ◌<◌}
use Rattle.tool_plan.specs.Check.{accepts}
use Rattle.tool_plan.specs.Quickest.{answered, no_plan, planned, changed_at, revised}
use Rattle.tool_plan.specs.declared.SetPoints.{SetPoints}
use Rattle.tool_plan.specs.declared.Plan.{Plan}
use Rattle.tool_plan.specs.declared.Planned.{Planned}

abbrev pub told : SetPoints → ℕ → Planned
told s window = answered (planned s window)

pub record ToHosts : Type 0 where
  -- What is told with refusal 0 is accepted.
  pub sound : (s : SetPoints) (window : ℕ) → (told s window).refusal ≡ 0 → accepts s window (told s window).plan ≡ true
  -- Refusal 0 is told if any plan at all is accepted for these set-points and this window;
  pub complete : (s : SetPoints) (window : ℕ) (p : Plan) → accepts s window p ≡ true → (told s window).refusal ≡ 0
  -- and else 11.
  pub refuses : (s : SetPoints) (window : ℕ) → ((p : Plan) → accepts s window p ≡ true → ⊥) → told s window ≡ no_plan
  pub eleven : no_plan.refusal ≡ 11
  pub least : (s : SetPoints) (window : ℕ) (p : Plan) → accepts s window p ≡ true → (told s window).plan.clock ≤ p.clock
  pub any_window :
      (s : SetPoints) (window later : ℕ) → (told s window).refusal ≡ 0 →
      ((told s window).plan.clock ≤ later → told s later ≡ told s window) × (later < (told s window).plan.clock → told s later ≡ no_plan)
  pub revises :
      (s : SetPoints) (window : ℕ) (p : Plan) (spcr0 spcr1 : ℕ) →
      ((answered (revised s window p spcr0 spcr1)).refusal ≡ 0 → accepts s window (answered (revised s window p spcr0 spcr1)).plan ≡ true)
      × ((clock : ℕ) → accepts s window (changed_at p spcr0 spcr1 clock) ≡ true →
      answered (revised s window p spcr0 spcr1) ≡ record { refusal = 0; plan = changed_at p spcr0 spcr1 clock })
