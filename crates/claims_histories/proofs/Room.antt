-- Where the clocks stay within 2^64 - 1, every hold is played. Assumes nothing.
use mathlib.Core.Path.{◌≡◌, refl, ap, ◌∙◌}
use mathlib.Core.Bool.{Bool, true, false, cond}
use mathlib.Core.List.{List, [], ◌∷◌, ◌++◌}
use Prim.Native.Nat.{ℕ, ◌+◌, ◌≤◌}
use native.Mathlib.Omega.{arith}
use Rattle.sci.specs.claims.History.{Step}
use Rattle.sci.proofs.History.{clocks}
use Rattle.sci.proofs.Lift.{steps_of}
use Rattle.qsm.specs.model.State.{reset_module}
use Rattle.qsm.specs.model.Event.{clock_limit, passes, step}
use Rattle.qsm.specs.declared.state.Module.{Module}
use Rattle.qsm.specs.declared.event.Access.{Access}
use Rattle.qsm.specs.declared.event.Event.{Event}
use Rattle.qsm.specs.declared.event.Event.TheVariants.{Reset, Hold}
use Rattle.qsm.specs.declared.event.Event.TheVariants as event
use Rattle.qsm.proofs.Limit.{hold_if, is_room}
use Rattle.qsm.proofs.Splitting.{hold_counts}
use Rattle.qsm.proofs.Counting.{counting}
use Rattle.claims_histories.specs.History.{after, run, played_clocks, counted}
use Rattle.claims_histories.specs.Demand3.{Counted}
use Rattle.claims_histories.proofs.Follows.{steps}

-- ---- the count, event by event

pub reset_none : reset_module.clock ≡ 0
unfolding reset_module
reset_none = refl

pub reset_count : (m : Module) → (after Reset m).clock ≡ 0
unfolding step
reset_count m = counting.counts m Reset

pub access_count : (a : Access) (m : Module) → (after (event.Access a) m).clock ≡ m.clock
unfolding step
access_count a m = counting.counts m (event.Access a)

pub hold_count : (pins : ℕ) (rxd : Bool) (n : ℕ) (m : Module) → (after (Hold pins rxd n) m).clock ≡ m.clock + played_clocks m n
hold_count pins rxd n m =
    hold_if (λ d. d.state.clock ≡ m.clock + played_clocks m n) m pins rxd n
    (λ h. rw h (let none : m.clock ≡ m.clock + 0 = omega arith in none)) (λ h. rw h (hold_counts m pins rxd n))

pub all_counted : Counted
unfolding run counted
all_counted [] m = refl
all_counted (Reset ∷ es) m = all_counted es (after Reset m) ∙ ap (counted es (after Reset m)) (reset_count m)
all_counted (Hold pins rxd n ∷ es) m =
    all_counted es (after (Hold pins rxd n) m) ∙ ap (counted es (after (Hold pins rxd n) m)) (hold_count pins rxd n m)
all_counted (event.Access a ∷ es) m =
    all_counted es (after (event.Access a) m) ∙ ap (counted es (after (event.Access a) m)) (access_count a m)

-- ---- holds that are all played

abbrev pub clocks_of : Event → ℕ
clocks_of Reset = 0
clocks_of (Hold pins rxd n) = n
clocks_of (event.Access a) = 0

abbrev pub total : List Event → ℕ
total [] = 0
total (e ∷ es) = clocks_of e + total es

pub all_played : (m : Module) (n : ℕ) → m.clock + n ≤ clock_limit → played_clocks m n ≡ n
all_played m n h = rw (is_room m n h)

few : (t : Bool) (n : ℕ) → cond t 0 n ≤ n
few true n = omega arith
few false n = omega arith

pub after_count : (e : Event) (m : Module) → (after e m).clock ≤ m.clock + clocks_of e
after_count Reset m = omega (arith, reset_count m)
after_count (Hold pins rxd n) m = omega (arith, hold_count pins rxd n m, few (passes m n) n)
after_count (event.Access a) m = omega (arith, access_count a m)

pub run_count : (es : List Event) (m : Module) → (run es m).clock ≤ m.clock + total es
unfolding run
run_count [] m = omega arith
run_count (e ∷ es) m = omega (arith, run_count es (after e m), after_count e m)

-- The steps of events whose holds are all played.
abbrev pub plain_steps : Event → Module → List Step
plain_steps Reset m = steps Reset m
plain_steps (Hold pins rxd n) m = clocks n rxd
plain_steps (event.Access a) m = steps (event.Access a) m

plain_steps_holds : (e : Event) (m : Module) → m.clock + clocks_of e ≤ clock_limit → steps e m ≡ plain_steps e m
plain_steps_holds Reset m h = refl
plain_steps_holds (Hold pins rxd n) m h = ap (λ (k : ℕ). clocks k rxd) (all_played m n h)
plain_steps_holds (event.Access a) m h = refl

pub all_plain : (es : List Event) (m : Module) → m.clock + total es ≤ clock_limit → steps_of after steps es m ≡ steps_of after plain_steps es m
all_plain [] m h = refl
all_plain (e ∷ es) m h =
    ap (λ (fs : List Step). fs ++ steps_of after steps es (after e m)) (plain_steps_holds e m (omega arith))
    ∙ ap (λ (fs : List Step). plain_steps e m ++ fs) (all_plain es (after e m) (omega (arith, after_count e m)))

-- A list of events since reset.
pub since_plain : (es : List Event) → total es ≤ clock_limit → steps_of after steps es reset_module ≡ steps_of after plain_steps es reset_module
since_plain es h = all_plain es reset_module (omega (arith, reset_none))

pub since_count : (es : List Event) → (run es reset_module).clock ≤ total es
since_count es = omega (arith, run_count es reset_module, reset_none)
