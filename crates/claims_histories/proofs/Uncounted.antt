-- An access that is no counted write leaves SCCR0, SCCR1 and RWU; and SCCR0 since a reset is SCBR.
use mathlib.Core.Path.{◌≡◌, refl, ap, subst, sym, ◌∙◌}
use mathlib.Core.Bool.{Bool, true, false, cond, not, true≢false}
use mathlib.Core.List.{List, [], ◌∷◌}
use Prim.Native.Nat.{ℕ}
use native.Mathlib.Omega.{arith}
use lib.Dec.{eqb}
use Rattle.steps.specs.Bits.{merge}
use Rattle.sci.specs.model.Control.{SCBR, RE, sccr0_bits, settings}
use Rattle.sci.specs.model.Serial.{reset_sci, sccr0_set, wrote_sccr0, sccr0_guarded, sccr1_guarded}
use Rattle.sci.specs.claims.History.{Step, reset, clock, reads, writesSccr0, writesSccr1, writesScdr, step, run, breaks, Unbroken}
use Rattle.sci.specs.declared.serial.Sci.{Sci}
use Rattle.sci.proofs.Frames.{by_cond}
use Rattle.sci.proofs.Registers.{clock_registers}
use Rattle.sci.proofs.Follow.{step_sccr1}
use Rattle.qsm.specs.model.State.{reset_module}
use Rattle.qsm.specs.declared.event.Event.TheVariants as event
use Rattle.claims_histories.specs.History.{after}
use Rattle.claims_histories.specs.Demand2.{Uncounted, RateIsAll}
use Rattle.claims_histories.proofs.Follows.{steps, follows}
use Rattle.claims_histories.proofs.Unbroken.{event_unbroken}
use Rattle.claims_histories.proofs.Lifted.{all, from_reset}
use Rattle.claims_histories.proofs.Period.{step_rate}
use Rattle.claims_histories.proofs.Parts.{rate_control, rate_data, asleep_data}
use Rattle.claims_histories.proofs.Given.{Accesses, AllAccesses, event_accesses}

refused_asleep : (g : Bool) (s t : Sci) → not g ≡ false → (cond g s t).receiver.asleep ≡ s.receiver.asleep
refused_asleep true s t e = refl
refused_asleep false s t e = absurd (true≢false e)

step_asleep : (e : Step) (s : Sci) → Accesses e → breaks e s ≡ false → (step e s).receiver.asleep ≡ s.receiver.asleep
unfolding step
step_asleep reset s a h = absurd a
step_asleep (clock x) s a h = absurd a
step_asleep (reads scsr scdr) s a h = refl
step_asleep (writesSccr0 v upper lower) s a h = refused_asleep (sccr0_guarded s v upper lower) s _ h
step_asleep (writesSccr1 v upper lower) s a h = refused_asleep (sccr1_guarded s v upper lower) s _ h
step_asleep (writesScdr v upper lower) s a h = asleep_data lower s v upper

record Left (s r : Sci) : Type 0 where
  rate : r.sccr0 ≡ s.sccr0
  control : r.sccr1 ≡ s.sccr1
  asleep : r.receiver.asleep ≡ s.receiver.asleep

run_left : (es : List Step) (s : Sci) → AllAccesses es → Unbroken es s → Left s (run es s)
unfolding run
run_left [] s a u = record { rate = refl; control = refl; asleep = refl }
run_left (e ∷ es) s a u =
    let h : Left (step e s) (run es (step e s)) = run_left es (step e s) a.1 u.1 in
    record {
      rate = h.rate ∙ step_rate e s u.0;
      control = h.control ∙ step_sccr1 e s u.0;
      asleep = h.asleep ∙ step_asleep e s a.0 u.0;
    }

pub uncounted : Uncounted
uncounted m a h =
    let l : Left m.sci (after (event.Access a) m).sci =
    subst (Left m.sci) (sym (follows (event.Access a) m))
    (run_left (steps (event.Access a) m) m.sci (event_accesses a m) (event_unbroken (event.Access a) m h)) in
    record {
      same = record { rate = l.rate; set = ap settings l.control };
      on = ap RE l.control;
      asleep = l.asleep;
    }

-- SCCR0 since a reset.
abbrev Small : Sci → Type 0
Small s = s.sccr0 ≡ SCBR s.sccr0

set_small : (same : Bool) (s : Sci) (v : ℕ) → Small s → Small (sccr0_set same s (sccr0_bits v))
set_small true s v h = h
set_small false s v h = omega arith

rate_small : (s : Sci) (v : ℕ) (upper lower : Bool) → Small s → Small (wrote_sccr0 s v upper lower)
unfolding wrote_sccr0
rate_small s v upper lower h =
    set_small (eqb (sccr0_bits (merge s.sccr0 v upper lower)) s.sccr0) s (merge s.sccr0 v upper lower) h

kept_small : (s r : Sci) → r.sccr0 ≡ s.sccr0 → Small s → Small r
kept_small s r e h = e ∙ h ∙ ap SCBR (sym e)

step_small : (e : Step) (s : Sci) → Small s → Small (step e s)
unfolding step
step_small reset s h = refl
step_small (clock x) s h = kept_small s (step (clock x) s) (clock_registers s x).sccr0 h
step_small (reads scsr scdr) s h = h
step_small (writesSccr0 v upper lower) s h =
    by_cond Small (sccr0_guarded s v upper lower) (λ _. h) (λ _. rate_small s v upper lower h)
step_small (writesSccr1 v upper lower) s h = kept_small s (step (writesSccr1 v upper lower) s) (rate_control v upper lower s) h
step_small (writesScdr v upper lower) s h = kept_small s (step (writesScdr v upper lower) s) (rate_data lower s v upper) h

run_small : (es : List Step) (s : Sci) → Small s → Small (run es s)
unfolding run
run_small [] s h = h
run_small (e ∷ es) s h = run_small es (step e s) (step_small e s h)

pub rate_is_all_holds : RateIsAll
rate_is_all_holds es = subst Small (sym (from_reset es)) (run_small (all es reset_module) reset_sci refl)
