-- A module's events as steps of its serial half: RXD's levels, and that the receiver stays on and awake. Assumes nothing.
use mathlib.Core.Path.{◌≡◌, refl, ap, sym, subst, ◌∙◌}
use mathlib.Core.Bool.{Bool, true, false, false≢true}
use mathlib.Core.List.{List, [], ◌∷◌, ◌++◌}
use Prim.Native.Nat.{ℕ, zero, suc}
use lib.ListN.{replicate}
use Rattle.sci.specs.model.Control.{RE}
use Rattle.sci.specs.model.Transmitter.{sent}
use Rattle.sci.specs.model.Serial.{active, due, clocked}
use Rattle.sci.specs.claims.History.{Step, reset, clock, reads, writesSccr0, writesSccr1, writesScdr}
use Rattle.sci.specs.claims.History as sci
use Rattle.sci.specs.declared.serial.Sci.{Sci}
use Rattle.sci.proofs.History.{clocks}
use Rattle.sci.proofs.Follow.{step_sccr1}
use Rattle.sci.proofs.Samples.{stays_awake}
use Rattle.sci.proofs.Reachable.{turned, clock_turned}
use Rattle.qsm.specs.declared.state.Module.{Module}
use Rattle.qsm.specs.declared.event.Event.{Event}
use Rattle.qsm.specs.declared.event.Event.TheVariants.{Reset, Hold}
use Rattle.qsm.specs.declared.event.Event.TheVariants as event
use Rattle.claims_histories.specs.History.{after, played_clocks}
use Rattle.claims_histories.specs.Sentence.{rxd_in}
use Rattle.claims_histories.proofs.Words.{is_sccr1}
use Rattle.claims_histories.proofs.Follows.{steps, follows}
use Rattle.claims_histories.proofs.Lifted.{all}
use Rattle.claims_histories.proofs.Parts.{Along, event_along, on_part, asleep_part}
use Rattle.claims_histories.proofs.Given.{AllAccesses, event_accesses}
use Rattle.claims_deadlines.proofs.Events.{reset_run}
use Rattle.claims_senders.proofs.Receiving as serial
use Rattle.claims_through.specs.Through.{StaysAwake}

-- ---- RXD's levels

hold_levels : (n : ℕ) (x : Bool) (fs : List Step) → serial.rxd_in (clocks n x ++ fs) ≡ replicate n x ++ serial.rxd_in fs
unfolding serial.rxd_in
hold_levels zero x fs = refl
hold_levels (suc n) x fs = ap (λ (l : List Bool). x ∷ l) (hold_levels n x fs)

access_levels : (es fs : List Step) → AllAccesses es → serial.rxd_in (es ++ fs) ≡ serial.rxd_in fs
unfolding serial.rxd_in
access_levels [] fs a = refl
access_levels (reset ∷ es) fs a = absurd a.0
access_levels (clock x ∷ es) fs a = absurd a.0
access_levels (reads scsr scdr ∷ es) fs a = access_levels es fs a.1
access_levels (writesSccr0 v upper lower ∷ es) fs a = access_levels es fs a.1
access_levels (writesSccr1 v upper lower ∷ es) fs a = access_levels es fs a.1
access_levels (writesScdr v upper lower ∷ es) fs a = access_levels es fs a.1

pub all_levels : (es : List Event) (m : Module) → serial.rxd_in (all es m) ≡ rxd_in es m
unfolding serial.rxd_in rxd_in
all_levels [] m = refl
all_levels (Reset ∷ es) m = all_levels es (after Reset m)
all_levels (Hold pins rxd n ∷ es) m =
    hold_levels (played_clocks m n) rxd (all es (after (Hold pins rxd n) m))
    ∙ ap (λ (l : List Bool). replicate (played_clocks m n) rxd ++ l) (all_levels es (after (Hold pins rxd n) m))
all_levels (event.Access a ∷ es) m =
    access_levels (steps (event.Access a) m) (all es (after (event.Access a) m)) (event_accesses a m)
    ∙ all_levels es (after (event.Access a) m)

-- ---- on and awake

stays_append : (es fs : List Step) (s : Sci) → serial.StaysAwake es s → serial.StaysAwake fs (sci.run es s) → serial.StaysAwake (es ++ fs) s
unfolding serial.StaysAwake sci.run
stays_append [] fs s h i = i
stays_append (e ∷ es) fs s h i = (h.0, h.1, h.2, stays_append es fs (sci.step e s) h.3 i)

no_reset : (e : Step) (es : List Step) → AllAccesses (e ∷ es) → serial.resets e ≡ false
no_reset reset es a = absurd a.0
no_reset (clock x) es a = refl
no_reset (reads scsr scdr) es a = refl
no_reset (writesSccr0 v upper lower) es a = refl
no_reset (writesSccr1 v upper lower) es a = refl
no_reset (writesScdr v upper lower) es a = refl

along_stays : (es : List Step) (s : Sci) → AllAccesses es → RE s.sccr1 ≡ true → s.receiver.asleep ≡ false →
    Along (λ (r : Sci). RE r.sccr1) es s → Along (λ (r : Sci). r.receiver.asleep) es s → serial.StaysAwake es s
unfolding serial.StaysAwake
along_stays [] s a on awake h i = tt
along_stays (e ∷ es) s a on awake h i =
    (no_reset e es a, h.0 ∙ on, i.0 ∙ awake, along_stays es (sci.step e s) a.1 (h.0 ∙ on) (i.0 ∙ awake) h.1 i.1)

clock_awake : (s : Sci) (x : Bool) → s.receiver.asleep ≡ false → (clocked s x).receiver.asleep ≡ false
clock_awake s x a = ap (λ (r : Sci). r.receiver.asleep) (clock_turned s x) ∙ go (active s) (due s) (RE s.sccr1)
  where
    go : (b d on : Bool) → (turned b d on s x).receiver.asleep ≡ false
    go true true true = stays_awake s.receiver (sent s.transmitter s.status s.sccr1).status s.sccr1 x a
    go true true false = a
    go true false on = a
    go false d on = a

pub hold_stays : (n : ℕ) (x : Bool) (s : Sci) → RE s.sccr1 ≡ true → s.receiver.asleep ≡ false → serial.StaysAwake (clocks n x) s
unfolding serial.StaysAwake sci.step
hold_stays zero x s on awake = tt
hold_stays (suc n) x s on awake =
    let e : RE (clocked s x).sccr1 ≡ true = ap RE (step_sccr1 (clock x) s refl) ∙ on in
    let a : (clocked s x).receiver.asleep ≡ false = clock_awake s x awake in
    (refl, e, a, hold_stays n x (clocked s x) e a)

event_stays : (e : Event) (m : Module) → RE m.sci.sccr1 ≡ true → m.sci.receiver.asleep ≡ false → RE (after e m).sci.sccr1 ≡ true →
    (after e m).sci.receiver.asleep ≡ false → serial.StaysAwake (steps e m) m.sci
event_stays Reset m on awake h i = absurd (false≢true (sym (ap (λ (s : Sci). RE s.sccr1) (follows Reset m ∙ reset_run m.sci)) ∙ h))
event_stays (Hold pins rxd n) m on awake h i = hold_stays (played_clocks m n) rxd m.sci on awake
event_stays (event.Access a) m on awake h i =
    along_stays (steps (event.Access a) m) m.sci (event_accesses a m) on awake
    (event_along is_sccr1 (λ (s : Sci). RE s.sccr1) on_part a m (h ∙ sym on))
    (event_along is_sccr1 (λ (s : Sci). s.receiver.asleep) asleep_part a m (i ∙ sym awake))

pub all_stays : (es : List Event) (m : Module) → RE m.sci.sccr1 ≡ true → m.sci.receiver.asleep ≡ false → StaysAwake es m →
    serial.StaysAwake (all es m) m.sci
unfolding serial.StaysAwake
all_stays [] m on awake h = tt
all_stays (e ∷ es) m on awake h =
    stays_append (steps e m) (all es (after e m)) m.sci (event_stays e m on awake h.0 h.1)
    (subst (serial.StaysAwake (all es (after e m))) (follows e m) (all_stays es (after e m) h.0 h.1 h.2))
