-- A list of events of the host and the drivers, and the module's list in it. Assumes nothing.
use mathlib.Core.Bool.{Bool, true, false, cond}
use mathlib.Core.List.{List, [], ◌∷◌, ◌++◌}
use mathlib.Core.Path.{◌≡◌, refl, sym, ap, subst, ◌∙◌}
use Prim.Native.Nat.{ℕ}
use Rattle.sci.specs.model.Control.{settings}
use Rattle.qsm.specs.model.State.{reset_module}
use Rattle.qsm.specs.declared.state.Module.{Module}
use Rattle.qsm.specs.declared.event.Access.TheVariants.{Read}
use Rattle.qsm.specs.declared.event.Event as below
use Rattle.qsm.specs.declared.event.Event.TheVariants as event
use Rattle.claims_histories.specs.History.{after, run, Unbroken, ops, watched}
use Rattle.claims_histories.specs.Demand3.{Recovers, Compared}
use Rattle.claims_histories.proofs.Comparing.{demand3}
use Rattle.drivers.specs.State.{new_shared}
use Rattle.drivers.specs.Event.{step}
use Rattle.drivers.specs.Claims.{nine}
use Rattle.drivers.specs.declared.state.Shared.{Shared}
use Rattle.drivers.specs.declared.event.Event.{Event}
use Rattle.drivers.specs.declared.event.Event.TheVariants.{Reset, Hold, Access, Drive, Claim, Release}
use Rattle.drivers.proofs.Lawful.{laws}
use Rattle.claims_drivers.specs.Driven.{left, own, comes_to, drives}
use Rattle.claims_drivers.specs.Demand3.{Follows, Joins, Recovered, DrivenDemand3}

-- ---- lists

++-assoc : (es fs gs : List below.Event) → (es ++ fs) ++ gs ≡ es ++ (fs ++ gs)
++-assoc [] fs gs = refl
++-assoc (e ∷ es) fs gs = ap (λ (l : List below.Event). e ∷ l) (++-assoc es fs gs)

run_on : (es fs : List below.Event) (m : Module) → run (es ++ fs) m ≡ run fs (run es m)
unfolding run
run_on [] fs m = refl
run_on (e ∷ es) fs m = run_on es fs (after e m)

one : (e : below.Event) (m : Module) → run (e ∷ []) m ≡ after e m
unfolding run
one e m = refl

none : (m : Module) → run [] m ≡ m
unfolding run
none m = refl

-- ---- one event

-- What is not refused 9 is the module's own step.
plain : (d : Shared) (e : Event) → nine d e ≡ false → (step d e).state.qsm ≡ run (own e) d.qsm
plain d (Reset s) h = (laws.demand2.reset d s h).0 ∙ sym (one event.Reset d.qsm ∙ demand3.stepped d.qsm event.Reset)
plain d (Hold pins rxd n) h =
    (laws.demand2.hold d pins rxd n).0.0
    ∙ sym (one (event.Hold pins rxd n) d.qsm ∙ demand3.stepped d.qsm (event.Hold pins rxd n))
plain d (Access a) h =
    (laws.demand2.host d a).0.0 ∙ sym (one (event.Access a) d.qsm ∙ demand3.stepped d.qsm (event.Access a))
plain d (Drive who a) h =
    (laws.demand2.driver d who a h).0.0 ∙ sym (one (event.Access a) d.qsm ∙ demand3.stepped d.qsm (event.Access a))
plain d (Claim who) h = laws.demand2.claim d who h ∙ sym (none d.qsm)
plain d (Release who) h = laws.demand2.release d who h ∙ sym (none d.qsm)

event_by_holds : (t : Bool) (d : Shared) (e : Event) → nine d e ≡ t → (step d e).state.qsm ≡ run (cond t [] (own e)) d.qsm
event_by_holds true d e h = ap (λ (s : Shared). s.qsm) (laws.unchanged d e h).0 ∙ sym (none d.qsm)
event_by_holds false d e h = plain d e h

pub of_event_holds : (d : Shared) (e : Event) → (step d e).state.qsm ≡ run (comes_to d e) d.qsm
of_event_holds d e = event_by_holds (nine d e) d e refl

-- ---- a list

pub follows : Follows
unfolding drives
follows [] d = sym (none d.qsm)
follows (e ∷ es) d =
    let after_one : Shared = (step d e).state in
    follows es after_one
    ∙ ap (run (drives es after_one)) (of_event_holds d e)
    ∙ sym (run_on (comes_to d e) (drives es after_one) d.qsm)

pub joins : Joins
unfolding drives
joins [] fs d = refl
joins (e ∷ es) fs d =
    ap (λ (l : List below.Event). comes_to d e ++ l) (joins es fs (step d e).state)
    ∙ sym (++-assoc (comes_to d e) (drives es (step d e).state) (drives fs (left es (step d e).state)))

-- ---- demand 3

new_module : new_shared.qsm ≡ reset_module
unfolding new_shared
new_module = refl

from_new : (es : List Event) → (left es new_shared).qsm ≡ run (drives es new_shared) reset_module
from_new es = follows es new_shared ∙ ap (run (drives es new_shared)) new_module

module _
    (quiet : List below.Event) (supervisor : Bool) (width offset : ℕ) (early : List below.Event) (enable : below.Event)
    (waited later later' : List below.Event) where
  abbrev Claimed : Module → Module → Type 0
  Claimed m z =
      Recovers m quiet supervisor width offset → Compared early enable waited →
      settings m.sci.sccr1 ≡ settings (after enable (run early reset_module)).sci.sccr1 → Unbroken later z →
      Unbroken later' (run waited (after enable (run early reset_module))) →
      ops later z ≡ ops later' (run waited (after enable (run early reset_module))) →
      watched later z ≡ watched later' (run waited (after enable (run early reset_module)))

  claimed :
      (before : List below.Event) (m z : Module) → run before reset_module ≡ m →
      after (event.Access (Read supervisor width offset)) (run quiet m) ≡ z → Claimed m z
  claimed before m z is at =
      subst (Claimed m) at
      (subst (λ (m : Module). Claimed m (after (event.Access (Read supervisor width offset)) (run quiet m))) is
      (λ recovers compared. demand3.recovered before quiet supervisor width offset early enable waited later later' recovers compared))

pub recovered : Recovered
recovered before quiet look supervisor width offset early enable waited later later' is =
    let d : Shared = left before new_shared in
    let l : Shared = left quiet d in
    let z : Shared = (step l look).state in
    let read : below.Event = event.Access (Read supervisor width offset) in
    let at : after read (run (drives quiet d) d.qsm) ≡ z.qsm =
    sym (of_event_holds l look ∙ ap (λ (es : List below.Event). run es l.qsm) is ∙ one read l.qsm ∙ ap (after read) (follows quiet d)) in
    claimed (drives quiet d) supervisor width offset early enable waited (drives later z) later' (drives before new_shared) d.qsm z.qsm
    (sym (from_new before)) at

pub driven : DrivenDemand3
driven =
    record {
      follows = follows;
      joins = joins;
      demand3 = demand3;
      recovered = recovered;
      overrun = λ es. demand3.overrun (drives es new_shared);
    }
