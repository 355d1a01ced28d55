-- The deadline of the module's events, by the steps of its serial half. Assumes nothing.
use mathlib.Core.Path.{◌≡◌, refl, ap, sym, subst, ◌∙◌}
use mathlib.Core.Bool.{Bool, true, false≢true}
use mathlib.Core.List.{List, [], ◌∷◌, ◌++◌}
use mathlib.Core.Option.{none}
use Prim.Native.Nat.{ℕ, zero, suc, ◌*◌}
use Rattle.sci.specs.model.Control.{SCBR, RE, M, bits_of}
use Rattle.sci.specs.claims.Line.{Op}
use Rattle.sci.specs.model.Serial.{reset_sci, clocked}
use Rattle.sci.specs.claims.History.{Step, reset, clock, reads, writesSccr0, writesSccr1, writesScdr}
use Rattle.sci.specs.claims.History as sci
use Rattle.sci.specs.declared.serial.Sci.{Sci}
use Rattle.sci.proofs.History.{clocks}
use Rattle.sci.proofs.Follow.{step_sccr1}
use Rattle.sci.proofs.Reachable.{Reachable}
use Rattle.qsm.specs.model.State.{reset_module}
use Rattle.qsm.specs.model.Event.{held, clock_module}
use Rattle.qsm.specs.declared.state.Module.{Module}
use Rattle.qsm.specs.declared.event.Event.{Event}
use Rattle.qsm.specs.declared.event.Event.TheVariants.{Reset, Hold}
use Rattle.qsm.specs.declared.event.Event.TheVariants as event
use Rattle.claims_histories.specs.History.{after, run, played_clocks, ops}
use Rattle.claims_histories.proofs.Words.{is_sccr1}
use Rattle.claims_histories.proofs.Follows.{steps, follows}
use Rattle.claims_histories.proofs.Lifted.{all, all_ops, all_log}
use Rattle.claims_histories.proofs.Parts.{Along, event_along, on_part}
use Rattle.claims_histories.proofs.Given.{AllAccesses, event_accesses}
use Rattle.claims_histories.proofs.Uncounted.{rate_is_all_holds}
use Rattle.claims_polling.specs.Spacing.{samples_of}
use Rattle.claims_polling.specs.Rule.{lost_in}
use Rattle.claims_polling.proofs.Ruled.{reached}
use Rattle.claims_deadlines.specs.Deadline.{age_after, age_for, InTimeFor, InTime, SpacedFrom, StaysOn, Deadline, AnyLine}
use Rattle.claims_deadlines.proofs.Lines.{spaced_from}
use Rattle.claims_deadlines.proofs.Aging.{aged, aged_all, InSteps, KeepsSteps}
use Rattle.claims_deadlines.proofs.Stands.{none_lost}

-- ---- steps put together

in_append : (limit : ℕ) (es fs : List Step) (s : Sci) (k : ℕ) → InSteps limit es s k → InSteps limit fs (sci.run es s) (aged_all es s k) →
    InSteps limit (es ++ fs) s k
unfolding sci.run
in_append limit [] fs s k h i = i
in_append limit (e ∷ es) fs s k h i = (h.0, in_append limit es fs (sci.step e s) (aged e s k) h.1 i)

keeps_append : (es fs : List Step) (s : Sci) → KeepsSteps es s → KeepsSteps fs (sci.run es s) → KeepsSteps (es ++ fs) s
unfolding sci.run
keeps_append [] fs s h i = i
keeps_append (e ∷ es) fs s h i = (h.0, keeps_append es fs (sci.step e s) h.1 i)

-- ---- accesses take no clock

access_in : (limit : ℕ) (es : List Step) (s : Sci) (k : ℕ) → AllAccesses es → InSteps limit es s k
access_in limit [] s k a = tt
access_in limit (reset ∷ es) s k a = absurd a.0
access_in limit (clock x ∷ es) s k a = absurd a.0
access_in limit (reads scsr scdr ∷ es) s k a = (tt, access_in limit es (sci.step (reads scsr scdr) s) k a.1)
access_in limit (writesSccr0 v upper lower ∷ es) s k a = (tt, access_in limit es (sci.step (writesSccr0 v upper lower) s) k a.1)
access_in limit (writesSccr1 v upper lower ∷ es) s k a = (tt, access_in limit es (sci.step (writesSccr1 v upper lower) s) k a.1)
access_in limit (writesScdr v upper lower ∷ es) s k a = (tt, access_in limit es (sci.step (writesScdr v upper lower) s) k a.1)

access_aged : (es : List Step) (s : Sci) (k : ℕ) → AllAccesses es → aged_all es s k ≡ k
access_aged [] s k a = refl
access_aged (reset ∷ es) s k a = absurd a.0
access_aged (clock x ∷ es) s k a = absurd a.0
access_aged (reads scsr scdr ∷ es) s k a = access_aged es (sci.step (reads scsr scdr) s) k a.1
access_aged (writesSccr0 v upper lower ∷ es) s k a = access_aged es (sci.step (writesSccr0 v upper lower) s) k a.1
access_aged (writesSccr1 v upper lower ∷ es) s k a = access_aged es (sci.step (writesSccr1 v upper lower) s) k a.1
access_aged (writesScdr v upper lower ∷ es) s k a = access_aged es (sci.step (writesScdr v upper lower) s) k a.1

along_keeps : (es : List Step) (s : Sci) → RE s.sccr1 ≡ true → Along (λ (r : Sci). RE r.sccr1) es s → KeepsSteps es s
along_keeps [] s on h = tt
along_keeps (e ∷ es) s on h = (h.0 ∙ on, along_keeps es (sci.step e s) (h.0 ∙ on) h.1)

-- ---- a hold's clocks

hold_in : (limit n : ℕ) (x : Bool) (m : Module) (k : ℕ) → InTimeFor limit n x m k → InSteps limit (clocks n x) m.sci k
unfolding sci.step clock_module
hold_in limit zero x m k h = tt
hold_in limit (suc n) x m k h = (h.0, hold_in limit n x (clock_module x m) (age_after m (clock_module x m) k) h.1)

hold_aged : (n : ℕ) (x : Bool) (m : Module) (k : ℕ) → aged_all (clocks n x) m.sci k ≡ age_for n x m k
unfolding sci.step clock_module
hold_aged zero x m k = refl
hold_aged (suc n) x m k = hold_aged n x (clock_module x m) (age_after m (clock_module x m) k)

hold_keeps : (n : ℕ) (x : Bool) (s : Sci) → RE s.sccr1 ≡ true → KeepsSteps (clocks n x) s
unfolding sci.step
hold_keeps zero x s on = tt
hold_keeps (suc n) x s on =
    let e : RE (clocked s x).sccr1 ≡ true = ap RE (step_sccr1 (clock x) s refl) ∙ on in
    (e, hold_keeps n x (clocked s x) e)

-- ---- events

pub reset_run : (s : Sci) → sci.run (reset ∷ []) s ≡ reset_sci
unfolding sci.run sci.step
reset_run s = refl

event_keeps : (e : Event) (m : Module) → RE m.sci.sccr1 ≡ true → RE (after e m).sci.sccr1 ≡ true → KeepsSteps (steps e m) m.sci
event_keeps Reset m on h = absurd (false≢true (sym (ap (λ (s : Sci). RE s.sccr1) (follows Reset m ∙ reset_run m.sci)) ∙ h))
event_keeps (Hold pins rxd n) m on h = hold_keeps (played_clocks m n) rxd m.sci on
event_keeps (event.Access a) m on h =
    along_keeps (steps (event.Access a) m) m.sci on
    (event_along is_sccr1 (λ (s : Sci). RE s.sccr1) on_part a m (h ∙ sym on))

all_keeps : (es : List Event) (m : Module) → RE m.sci.sccr1 ≡ true → StaysOn es m → KeepsSteps (all es m) m.sci
all_keeps [] m on h = tt
all_keeps (e ∷ es) m on h =
    keeps_append (steps e m) (all es (after e m)) m.sci (event_keeps e m on h.0)
    (subst (KeepsSteps (all es (after e m))) (follows e m) (all_keeps es (after e m) h.0 h.1))

all_in : (limit : ℕ) (es : List Event) (m : Module) (k : ℕ) → InTime limit es m k → InSteps limit (all es m) m.sci k
unfolding InTime
all_in limit [] m k h = tt
all_in limit (Reset ∷ es) m k h =
    in_append limit (reset ∷ []) (all es (after Reset m)) m.sci k (tt, tt)
    (subst (λ (s : Sci). InSteps limit (all es (after Reset m)) s k) (follows Reset m) (all_in limit es (after Reset m) k h))
all_in limit (Hold pins rxd n ∷ es) m k h =
    let p : ℕ = played_clocks m n in
    let m' : Module = after (Hold pins rxd n) m in
    in_append limit (clocks p rxd) (all es m') m.sci k (hold_in limit p rxd (held m pins) k h.0)
    (subst (λ (j : ℕ). InSteps limit (all es m') (sci.run (clocks p rxd) m.sci) j) (sym (hold_aged p rxd (held m pins) k))
    (subst (λ (s : Sci). InSteps limit (all es m') s (age_for p rxd (held m pins) k)) (follows (Hold pins rxd n) m)
    (all_in limit es m' (age_for p rxd (held m pins) k) h.1)))
all_in limit (event.Access a ∷ es) m k h =
    let fs : List Step = steps (event.Access a) m in
    let m' : Module = after (event.Access a) m in
    in_append limit fs (all es m') m.sci k (access_in limit fs m.sci k (event_accesses a m))
    (subst (λ (j : ℕ). InSteps limit (all es m') (sci.run fs m.sci) j) (sym (access_aged fs m.sci k (event_accesses a m)))
    (subst (λ (s : Sci). InSteps limit (all es m') s k) (follows (event.Access a) m) (all_in limit es m' k h)))

pub deadline : Deadline
deadline d past es on clear keeps spaced h =
    let m : Module = run past reset_module in
    ap lost_in (all_log es m)
    ∙ none_lost (all es m) m.sci d 0 on (rate_is_all_holds past) clear (all_keeps es m on keeps)
    (subst (λ (os : List Op). SpacedFrom d (bits_of (M m.sci.sccr1)) m.sci.receiver.last1 m.sci.receiver.last2 m.sci.receiver.last3 m.sci.receiver.framer none (samples_of os)) (all_ops es m) spaced)
    (all_in (d * (2 * SCBR m.sci.sccr0)) es m 0 h)

pub any_line_holds : AnyLine
any_line_holds moves past es u =
    let m : Module = run past reset_module in
    let k : Reachable m.sci = reached past in
    spaced_from moves m.sci.sccr1 m.sci.receiver.last1 m.sci.receiver.last2 m.sci.receiver.last3 m.sci.receiver.framer none
    (samples_of (ops es m)) k.sound.fits u tt
