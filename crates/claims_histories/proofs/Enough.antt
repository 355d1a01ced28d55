-- A module since reset has counted clocks enough for its samples: so there are enough for the receiver compared with. Assumes nothing.
use mathlib.Core.Path.{◌≡◌, refl, ap, sym, subst, ◌∙◌}
use mathlib.Core.Bool.{Bool, true≢false}
use mathlib.Core.List.{List, [], ◌∷◌}
use Prim.Native.Nat.{ℕ, ◌+◌, ◌*◌, ◌≤◌}
use native.Mathlib.Nat.{add-mul, mul-le-mul_right}
use native.Mathlib.Omega.{arith}
use Rattle.sci.specs.claims.Line.{Op, samples_in}
use Rattle.sci.specs.claims.History.{Step}
use Rattle.sci.specs.claims.History as sci
use Rattle.sci.specs.declared.serial.Sci.{Sci}
use Rattle.qsm.specs.model.State.{reset_module}
use Rattle.qsm.specs.model.Event.{clock_limit, step}
use Rattle.qsm.specs.declared.state.Module.{Module}
use Rattle.qsm.specs.declared.event.Event.{Event}
use Rattle.qsm.specs.declared.event.Event.TheVariants.{Reset, Hold}
use Rattle.qsm.specs.declared.event.Event.TheVariants as event
use Rattle.qsm.proofs.Counting.{counting}
use Rattle.claims_histories.specs.History.{after, run, Unbroken, played_clocks, ops}
use Rattle.claims_histories.proofs.Follows.{steps, follows}
use Rattle.claims_histories.proofs.Room.{reset_none, access_count, hold_count}
use Rattle.claims_histories.proofs.Given.{event_accesses}
use Rattle.claims_histories.proofs.Lifted.{all, all_run, all_ops, all_unbroken, reset_serial}
use Rattle.claims_histories.proofs.Clocked.{clocks_in, clocks_append, clocks_in_holds, accesses_none, period, run_bound, run_rate, samples_bound}

-- ---- the count, by the clocks of the steps

hold_steps : (pins : ℕ) (rxd : Bool) (n : ℕ) (m : Module) → (after (Hold pins rxd n) m).clock ≡ m.clock + clocks_in (steps (Hold pins rxd n) m)
hold_steps pins rxd n m = hold_count pins rxd n m ∙ ap (λ (k : ℕ). m.clock + k) (sym (clocks_in_holds (played_clocks m n) rxd))

event_steps : (e : Event) (m : Module) → (e ≡ Reset → ⊥) → (after e m).clock ≡ m.clock + clocks_in (steps e m)
event_steps Reset m h = absurd (h refl)
event_steps (Hold pins rxd n) m h = hold_steps pins rxd n m
event_steps (event.Access a) m h = omega (arith, access_count a m, accesses_none (steps (event.Access a) m) (event_accesses a m))

-- The prescaler has counted no more than the module.
abbrev Within : Module → Type 0
Within m = m.sci.prescaler ≤ m.clock

moved : (e : Event) (m : Module) → (e ≡ Reset → ⊥) → Within m → Within (after e m)
moved e m h w =
    omega (arith, ap (λ (s : Sci). s.prescaler) (follows e m), run_bound (steps e m) m.sci, event_steps e m h)

event_within : (e : Event) (m : Module) → Within m → Within (after e m)
unfolding sci.run sci.step
event_within Reset m w = omega (arith, ap (λ (s : Sci). s.prescaler) (follows Reset m))
event_within (Hold pins rxd n) m w = moved (Hold pins rxd n) m (λ z. let o : ◌≡◌ {A = ℕ} 0 1 = cc in omega arith) w
event_within (event.Access a) m w = moved (event.Access a) m (λ z. let o : ◌≡◌ {A = ℕ} 0 1 = cc in omega arith) w

run_within : (es : List Event) (m : Module) → Within m → Within (run es m)
unfolding run
run_within [] m w = w
run_within (e ∷ es) m w = run_within es (after e m) (event_within e m w)

-- And the count never passes its end.
run_limit : (es : List Event) (m : Module) → m.clock ≤ clock_limit → (run es m).clock ≤ clock_limit
unfolding run step
run_limit [] m h = h
run_limit (e ∷ es) m h = run_limit es (after e m) (counting.within m e h)

-- ---- the samples of events without reset or counted write

no_reset : (e : Event) (m : Module) (es : List Event) → Unbroken (e ∷ es) m → e ≡ Reset → ⊥
no_reset Reset m es u z = true≢false u.0
no_reset (Hold pins rxd n) m es u z = let o : ◌≡◌ {A = ℕ} 0 1 = cc in omega arith
no_reset (event.Access a) m es u z = let o : ◌≡◌ {A = ℕ} 0 1 = cc in omega arith

all_steps : (es : List Event) (m : Module) → Unbroken es m → (run es m).clock ≡ m.clock + clocks_in (all es m)
unfolding run
all_steps [] m u = omega arith
all_steps (e ∷ es) m u =
    omega (arith, all_steps es (after e m) u.1, event_steps e m (no_reset e m es u), clocks_append (steps e m) (all es (after e m)))

pub taken : (es : List Event) (m : Module) → Unbroken es m →
    samples_in (ops es m) * period m.sci + (run es m).sci.prescaler + m.clock ≤ m.sci.prescaler + (run es m).clock
taken es m u =
    let bound = samples_bound (all es m) m.sci (all_unbroken es m u) in
    omega (arith, ap (λ (os : List Op). samples_in os * period m.sci) (all_ops es m), ap (λ (s : Sci). s.prescaler) (all_run es m), bound, all_steps es m u)

pub same_rate : (es : List Event) (m : Module) → Unbroken es m → period (run es m).sci ≡ period m.sci
same_rate es m u = ap period (all_run es m) ∙ run_rate (all es m) m.sci (all_unbroken es m u)

reset_within : Within reset_module
reset_within = omega (arith, ap (λ (s : Sci). s.prescaler) reset_serial)

-- Two lists, one after the other, from a module since reset: their samples' clocks stay within the count.
pub enough : (before first later : List Event) (least : ℕ) → Unbroken first (run before reset_module) → Unbroken later (run first (run before reset_module)) →
    least ≤ samples_in (ops first (run before reset_module)) →
    (least + samples_in (ops later (run first (run before reset_module)))) * period (run before reset_module).sci ≤ clock_limit
enough before first later least u v h =
    let m : Module = run before reset_module in
    let q : Module = run first m in
    let p : ℕ = period m.sci in
    let n : ℕ = samples_in (ops first m) in
    let k : ℕ = samples_in (ops later q) in
    let one : n * p + q.sci.prescaler + m.clock ≤ m.sci.prescaler + q.clock = taken first m u in
    let two : k * p + (run later q).sci.prescaler + q.clock ≤ q.sci.prescaler + (run later q).clock =
    subst (λ (r : ℕ). k * r + (run later q).sci.prescaler + q.clock ≤ q.sci.prescaler + (run later q).clock) (same_rate first m u) (taken later q v) in
    let few : least * p ≤ n * p = mul-le-mul_right p h in
    let end : (run later q).clock ≤ clock_limit =
    run_limit later q (run_limit first m (run_limit before reset_module (omega (arith, reset_none)))) in
    omega (arith, one, two, few, end, run_within before reset_module reset_within, add-mul least k p)
