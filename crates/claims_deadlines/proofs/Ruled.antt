-- The rule of polls, by the deadline. Assumes nothing.
use mathlib.Core.Path.{◌≡◌, refl, ap, ◌∙◌}
use mathlib.Core.Bool.{Bool, true, false, cond, ◌&&◌, and-false}
use mathlib.Core.List.{List, [], ◌∷◌, ◌++◌}
use Rattle.sci.specs.model.Control.{RE}
use Rattle.sci.specs.claims.Line.{read, delivers}
use Rattle.sci.specs.model.Transmitter.{sent}
use Rattle.sci.specs.model.Serial.{active, due}
use Rattle.sci.specs.claims.History.{Step, reset, clock, reads, writesSccr0, writesSccr1, writesScdr, step, receiving, sampling}
use Rattle.sci.specs.claims.History as sci
use Rattle.sci.specs.claims.Overrun.{Mark, sample_marks, step_marks}
use Rattle.sci.specs.claims.Overrun as marks
use Rattle.sci.specs.declared.serial.Sci.{Sci}
use Rattle.sci.proofs.Follow.{step_sccr1}
use Rattle.qsm.specs.model.State.{reset_module}
use Rattle.qsm.specs.declared.state.Module.{Module}
use Rattle.qsm.specs.declared.event.Event.{Event}
use Rattle.claims_histories.specs.History.{after, run, breaks, Unbroken, log}
use Rattle.claims_histories.proofs.Lifted.{all, all_log, all_unbroken}
use Rattle.claims_polling.specs.Rule.{lost_in, polled_after, Kept}
use Rattle.claims_polling.proofs.Ruled.{stays}
use Rattle.claims_deadlines.specs.Deadline.{StaysOn}
use Rattle.claims_deadlines.proofs.Stands.{lost_read}
use Rattle.claims_deadlines.proofs.Polling.{polled_kept_holds}

-- Where SCCR1 stays, RE does.
one_stays : (e : Event) (m : Module) → breaks e m ≡ false → (after e m).sci.sccr1 ≡ m.sci.sccr1
unfolding run
one_stays e m h = (stays (e ∷ []) m (h, tt)).1

pub unbroken_stays : (es : List Event) (m : Module) → RE m.sci.sccr1 ≡ true → Unbroken es m → StaysOn es m
unbroken_stays [] m on u = tt
unbroken_stays (e ∷ es) m on u =
    let c : RE (after e m).sci.sccr1 ≡ true = ap RE (one_stays e m u.0) ∙ on in
    (c, unbroken_stays es (after e m) c u.1)

-- With RE clear there is no sample, and so no frame.
none_sampled : (s : Sci) → RE s.sccr1 ≡ false → sampling s ≡ false
none_sampled s off = ap (λ (b : Bool). active s && due s && b) off ∙ and-false (active s && due s)

off_step : (e : Step) (s : Sci) (h : List Mark) → RE s.sccr1 ≡ false → lost_in (step_marks e s ++ h) ≡ lost_in h
off_step reset s h off = refl
off_step (clock x) s h off =
    ap (λ (b : Bool). lost_in (cond b (sample_marks s (sent s.transmitter s.status s.sccr1).status x) [] ++ h)) (none_sampled s off)
off_step (reads scsr scdr) s h off = lost_read scsr (delivers (read scsr scdr) (receiving s)) h
off_step (writesSccr0 v upper lower) s h off = refl
off_step (writesSccr1 v upper lower) s h off = refl
off_step (writesScdr v upper lower) s h off = refl

off_lost : (es : List Step) (s : Sci) → RE s.sccr1 ≡ false → sci.Unbroken es s → lost_in (marks.log es s) ≡ 0
unfolding marks.log
off_lost [] s off u = refl
off_lost (e ∷ es) s off u =
    off_step e s (marks.log es (step e s)) off ∙ off_lost es (step e s) (ap RE (step_sccr1 e s u.0) ∙ off) u.1

pub kept : Kept
kept moves past ess h u w v = go (RE m.sci.sccr1) refl
  where
    m : Module
    m = run past reset_module

    go : (on : Bool) → RE m.sci.sccr1 ≡ on → lost_in (log (polled_after ess m) m) ≡ 0
    go true on = polled_kept_holds moves past ess on h (unbroken_stays (polled_after ess m) m on u) w v
    go false off =
        ap lost_in (all_log (polled_after ess m) m)
        ∙ off_lost (all (polled_after ess m) m) m.sci off (all_unbroken (polled_after ess m) m u)
