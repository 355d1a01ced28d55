-- The laws of the planner. Assumes nothing.
use mathlib.Core.Path.{◌≡◌, sym, ap, ◌∙◌, subst}
use mathlib.Core.Bool.{true}
use Prim.Native.Nat.{ℕ, ◌≤◌, ◌<◌}
use native.Mathlib.Omega.{arith}
use Rattle.std.specs.Prelude.{Some, None}
use Rattle.qsm.proofs.Booleans.{on}
use Rattle.tool_plan.specs.Check.{accepts}
use Rattle.tool_plan.specs.Accepted.{Accepted}
use Rattle.tool_plan.specs.Quickest.{proposal, if_accepted, planned, changed_at, changed, answered}
use Rattle.tool_plan.specs.Laws.{Sound, Complete, Refuses, Least, AnyWindow, Revises}
use Rattle.tool_plan.specs.declared.SetPoints.{SetPoints}
use Rattle.tool_plan.specs.declared.Plan.{Plan}
use Rattle.tool_plan.proofs.Meaning.{means}
use Rattle.tool_plan.proofs.Outcome.{given, refused}
use Rattle.tool_plan.proofs.Proposal.{clock_not_above, proposal_accepted}

-- Where any plan is accepted the proposal is given.
pub gives : (s : SetPoints) (window : ℕ) (p : Plan) → accepts s window p ≡ true → planned s window ≡ Some (proposal s)
gives s window p h =
    given s window (proposal s) ((means s window (proposal s)).1 (proposal_accepted s window p ((means s window p).0 h)))

same_plan : (p q : Plan) → Some p ≡ Some q → p ≡ q
same_plan p q e = cc

-- What is given is the plan that was asked of, and accepted.
is_accepted : (s : SetPoints) (window : ℕ) (p q : Plan) → if_accepted s window p ≡ Some q → (p ≡ q) × (accepts s window p ≡ true)
is_accepted s window p q h =
    on (accepts s window p)
    (λ t. (same_plan p q (sym (given s window p t) ∙ h), t))
    (λ f. let none : None ≡ Some q = sym (refused s window p f) ∙ h in cc)

given_accepted : (s : SetPoints) (window : ℕ) (p q : Plan) → if_accepted s window p ≡ Some q → accepts s window q ≡ true
given_accepted s window p q h =
    let is : (p ≡ q) × (accepts s window p ≡ true) = is_accepted s window p q h in
    ap (accepts s window) (sym is.0) ∙ is.1

pub sound : Sound
sound s window p h = given_accepted s window (proposal s) p h

pub revises : Revises
unfolding changed
revises s window p spcr0 spcr1 = (
  given_accepted s window (changed p spcr0 spcr1),
  (λ clock h.
      let same : changed p spcr0 spcr1 ≡ changed_at p spcr0 spcr1 clock =
      ap (changed_at p spcr0 spcr1) (sym ((means s window (changed_at p spcr0 spcr1 clock)).0 h).clock) in
      ap (if_accepted s window) same ∙ given s window (changed_at p spcr0 spcr1 clock) h),
)

pub complete : Complete
complete s window p h = rw (gives s window p h)

not_given : (s : SetPoints) (window : ℕ) → ((p : Plan) → accepts s window p ≡ true → ⊥) → planned s window ≡ None
not_given s window none =
    on (accepts s window (proposal s)) (λ t. absurd (none (proposal s) t)) (λ f. refused s window (proposal s) f)

pub refuses : Refuses
refuses s window none = let is : planned s window ≡ None = not_given s window none in (is, ap answered is)

pub least : Least
least s window p h = rw (gives s window p h) (clock_not_above s window p ((means s window p).0 h))

-- Of the plan that is given, in every window.
in_window : (s : SetPoints) (window later : ℕ) → accepts s window (proposal s) ≡ true →
    ((proposal s).clock ≤ later → planned s later ≡ Some (proposal s)) × (later < (proposal s).clock → planned s later ≡ None)
in_window s window later t =
    let a : Accepted s window (proposal s) = (means s window (proposal s)).0 t in (
      (λ enough.
          gives s later (proposal s)
          ((means s later (proposal s)).1
          (record {
            proper = a.proper;
            once = a.once;
            carries = a.carries;
            first = a.first;
            last = a.last;
            consecutive = a.consecutive;
            rate = a.rate;
            master = a.master;
            enabled = a.enabled;
            no_wrap = a.no_wrap;
            modelled = a.modelled;
            clock = a.clock;
            within = enough;
          }))),
      (λ short. not_given s later
          (λ p g. let b : Accepted s later p = (means s later p).0 g in omega (arith, b.within, clock_not_above s later p b))),
    )

pub any_window : AnyWindow
any_window s window later p h =
    let is : (proposal s ≡ p) × (accepts s window (proposal s) ≡ true) = is_accepted s window (proposal s) p h in
    subst (λ (q : Plan). (q.clock ≤ later → planned s later ≡ Some q) × (later < q.clock → planned s later ≡ None)) is.0
    (in_window s window later is.1)
