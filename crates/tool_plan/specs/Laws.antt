-- Document 02, L10: what is shown of the planner.
use Rattle.std.specs.Prelude.{◌≡◌, true, Some, None, IsSome, MatchOption, ℕ, ◌≤◌, ◌<◌}
use Rattle.tool_plan.specs.Check.{accepts}
use Rattle.tool_plan.specs.Quickest.{planned, changed_at, revised, answered, no_plan}
use Rattle.tool_plan.specs.declared.SetPoints.{SetPoints}
use Rattle.tool_plan.specs.declared.Plan.{Plan}

-- What the planner gives is accepted.
abbrev pub Sound : Type 0
Sound = (s : SetPoints) (window : ℕ) (p : Plan) → planned s window ≡ Some p → accepts s window p ≡ true

-- It gives one if any plan at all is accepted for these set-points and this window;
abbrev pub Complete : Type 0
Complete = (s : SetPoints) (window : ℕ) (p : Plan) → accepts s window p ≡ true → IsSome (planned s window)

-- and else none, which a host is told as refusal 11 and zeros.
abbrev pub Refuses : Type 0
Refuses =
    (s : SetPoints) (window : ℕ) → ((p : Plan) → accepts s window p ≡ true → ⊥) →
    (planned s window ≡ None) × (answered (planned s window) ≡ no_plan)

-- Its clock is the least of all accepted plans'.
abbrev pub Least : Type 0
Least =
    (s : SetPoints) (window : ℕ) (p : Plan) → accepts s window p ≡ true →
    MatchOption (planned s window) ⊥ (λ given. given.clock ≤ p.clock)

-- So a window is too short exactly below that clock, and it is the same plan in every window that isn't.
abbrev pub AnyWindow : Type 0
AnyWindow =
    (s : SetPoints) (window later : ℕ) (p : Plan) → planned s window ≡ Some p →
    (p.clock ≤ later → planned s later ≡ Some p) × (later < p.clock → planned s later ≡ None)

-- A plan with other registers is accepted where it is given, and is given where it is accepted with any clock at all.
abbrev pub Revises : Type 0
Revises =
    (s : SetPoints) (window : ℕ) (p : Plan) (spcr0 spcr1 : ℕ) →
    ((other : Plan) → revised s window p spcr0 spcr1 ≡ Some other → accepts s window other ≡ true)
    × ((clock : ℕ) → accepts s window (changed_at p spcr0 spcr1 clock) ≡ true →
    revised s window p spcr0 spcr1 ≡ Some (changed_at p spcr0 spcr1 clock))
