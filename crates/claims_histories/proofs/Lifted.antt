-- Demand 3, lifted from the serial half to the module's events.
use mathlib.Core.Path.{◌≡◌, refl, ap, sym, subst, ◌∙◌}
use mathlib.Core.Bool.{true, false}
use mathlib.Core.List.{List, [], ◌∷◌, ◌++◌}
use Prim.Native.Nat.{◌≤◌}
use Rattle.sci.specs.model.Control.{RE, settings}
use Rattle.sci.specs.claims.Line.{Op, Seen, Ones, samples_in, resync_samples}
use Rattle.sci.specs.model.Serial.{reset_sci}
use Rattle.sci.specs.claims.History.{Step}
use Rattle.sci.specs.claims.History as sci
use Rattle.sci.specs.claims.Demand3 as half
use Rattle.sci.specs.claims.Overrun.{Mark, Overrun}
use Rattle.sci.specs.claims.Overrun as marks
use Rattle.sci.specs.declared.serial.Sci.{Sci}
use Rattle.sci.proofs.History.{run_append, ops_append, watched_append, log_append, unbroken_append}
use Rattle.sci.proofs.Follow.{run_sccr1}
use Rattle.sci.proofs.Lift.{played, steps_of, played_run, lifted_overrun, lifted_recovered}
use Rattle.qsm.specs.model.State.{reset_module}
use Rattle.qsm.specs.model.Lanes.{touches}
use Rattle.qsm.specs.model.Event.{resets, does, step}
use Rattle.qsm.specs.declared.state.Module.{Module}
use Rattle.qsm.specs.declared.event.Access.TheVariants.{Read}
use Rattle.qsm.specs.declared.event.Event.{Event}
use Rattle.qsm.specs.declared.event.Event.TheVariants as event
use Rattle.claims_histories.specs.History.{after, run, Unbroken, event_ops, ops, event_seen, watched, event_marks, log}
use Rattle.claims_histories.specs.Demand3.{Off, Compared, Recovered, Afresh, Stepped}
use Rattle.claims_histories.proofs.Rise.{on, Rise, off_append}
use Rattle.claims_histories.proofs.Follows.{steps, follows}
use Rattle.claims_histories.proofs.Told.{event_ops_holds, event_seen_holds, event_marks_holds}
use Rattle.claims_histories.proofs.Unbroken.{event_unbroken}
use Rattle.claims_histories.proofs.Rises.{event_off, event_rise}
use Rattle.claims_histories.proofs.Shown.{shows_none, status_steps}

abbrev serial : Module → Sci
serial m = m.sci

abbrev pub all : List Event → Module → List Step
all es m = steps_of after steps es m

run_played : (es : List Event) (m : Module) → played after steps es m ≡ run es m
unfolding run
run_played [] m = refl
run_played (e ∷ es) m = run_played es (after e m)

-- A list of events is the list of its steps.
pub all_run : (es : List Event) (m : Module) → (run es m).sci ≡ sci.run (all es m) m.sci
all_run es m = ap serial (sym (run_played es m)) ∙ played_run after steps serial follows es m

pub all_ops : (es : List Event) (m : Module) → ops es m ≡ sci.ops (all es m) m.sci
unfolding ops sci.ops
all_ops [] m = refl
all_ops (e ∷ es) m =
    ap (λ (os : List Op). event_ops e m ++ os) (all_ops es (after e m))
    ∙ ap (λ (os : List Op). os ++ sci.ops (all es (after e m)) (after e m).sci) (event_ops_holds e m)
    ∙ ap (λ (s : Sci). sci.ops (steps e m) m.sci ++ sci.ops (all es (after e m)) s) (follows e m)
    ∙ sym (ops_append (steps e m) (all es (after e m)) m.sci)

pub all_watched : (es : List Event) (m : Module) → watched es m ≡ sci.watched (all es m) m.sci
unfolding watched sci.watched
all_watched [] m = refl
all_watched (e ∷ es) m =
    ap (λ (h : List Seen). event_seen e m ++ h) (all_watched es (after e m))
    ∙ ap (λ (h : List Seen). h ++ sci.watched (all es (after e m)) (after e m).sci) (event_seen_holds e m)
    ∙ ap (λ (s : Sci). sci.watched (steps e m) m.sci ++ sci.watched (all es (after e m)) s) (follows e m)
    ∙ sym (watched_append (steps e m) (all es (after e m)) m.sci)

pub all_log : (es : List Event) (m : Module) → log es m ≡ marks.log (all es m) m.sci
unfolding log marks.log
all_log [] m = refl
all_log (e ∷ es) m =
    ap (λ (h : List Mark). event_marks e m ++ h) (all_log es (after e m))
    ∙ ap (λ (h : List Mark). h ++ marks.log (all es (after e m)) (after e m).sci) (event_marks_holds e m)
    ∙ ap (λ (s : Sci). marks.log (steps e m) m.sci ++ marks.log (all es (after e m)) s) (follows e m)
    ∙ sym (log_append (steps e m) (all es (after e m)) m.sci)

pub all_unbroken : (es : List Event) (m : Module) → Unbroken es m → sci.Unbroken (all es m) m.sci
all_unbroken [] m u = tt
all_unbroken (e ∷ es) m u =
    unbroken_append (steps e m) (all es (after e m)) m.sci (event_unbroken e m u.0)
    (subst (sci.Unbroken (all es (after e m))) (follows e m) (all_unbroken es (after e m) u.1))

all_off : (es : List Event) (m : Module) → on m.sci ≡ false → Off es m → half.Off (all es m) m.sci
all_off [] m h o = tt
all_off (e ∷ es) m h o =
    off_append (steps e m) (all es (after e m)) m.sci (event_off e m h o.0)
    (subst (half.Off (all es (after e m))) (follows e m) (all_off es (after e m) o.0 o.1))

off_end : (es : List Event) (m : Module) → on m.sci ≡ false → Off es m → on (run es m).sci ≡ false
unfolding run
off_end [] m h o = h
off_end (e ∷ es) m h o = off_end es (after e m) o.0 o.1

pub reset_serial : reset_module.sci ≡ reset_sci
unfolding reset_module
reset_serial = refl

reset_off : on reset_module.sci ≡ false
reset_off = ap on reset_serial

pub from_reset : (es : List Event) → (run es reset_module).sci ≡ sci.run (all es reset_module) reset_sci
from_reset es = all_run es reset_module ∙ ap (sci.run (all es reset_module)) reset_serial

-- The module compared with, as the serial half compared with.
module _ (early : List Event) (enable : Event) (waited : List Event) (k : Compared early enable waited) where
  abbrev m₀ : Module
  m₀ = run early reset_module

  abbrev c : Module
  c = after enable m₀

  rise : Rise (steps enable m₀) m₀.sci
  rise = event_rise enable m₀ (off_end early reset_module reset_off k.off) k.rises

  abbrev first : List Step
  first = all early reset_module ++ rise.before

  enabled : sci.step rise.enable (sci.run first reset_sci) ≡ c.sci
  unfolding sci.run
  enabled =
      ap (sci.step rise.enable)
      (run_append (all early reset_module) rise.before reset_sci ∙ ap (sci.run rise.before) (sym (from_reset early)))
      ∙ sym (run_append rise.before (rise.enable ∷ []) m₀.sci)
      ∙ ap (λ (es : List Step). sci.run es m₀.sci) (sym rise.split)
      ∙ sym (follows enable m₀)

  compared : half.Compared first rise.enable (all waited c)
  compared =
      record {
        off =
            off_append (all early reset_module) rise.before reset_sci
            (subst (half.Off (all early reset_module)) reset_serial (all_off early reset_module reset_off k.off))
            (subst (half.Off rise.before) (from_reset early) rise.off);
        rises = subst (λ (s : Sci). RE s.sccr1 ≡ true) (sym enabled) k.rises;
        awake = subst (λ (s : Sci). s.receiver.asleep ≡ false) (sym enabled) k.awake;
        unbroken = subst (sci.Unbroken (all waited c)) (sym enabled) (all_unbroken waited c k.unbroken);
        ones =
            subst (λ (s : Sci). Ones (sci.ops (all waited c) s)) (sym enabled) (subst Ones (all_ops waited c) k.ones);
        enough =
            subst (λ (s : Sci). resync_samples ≤ samples_in (sci.ops (all waited c) s)) (sym enabled)
            (subst (λ (os : List Op). resync_samples ≤ samples_in os) (all_ops waited c) k.enough);
      }

  ready : (run waited c).sci ≡ sci.run (all waited c) (sci.step rise.enable (sci.run first reset_sci))
  ready = all_run waited c ∙ ap (sci.run (all waited c)) (sym enabled)

  still : (run waited c).sci.sccr1 ≡ c.sci.sccr1
  still = ap (λ (s : Sci). s.sccr1) (all_run waited c) ∙ run_sccr1 (all waited c) c.sci (all_unbroken waited c k.unbroken)

pub recovered : Recovered
recovered before quiet supervisor width offset early enable waited later later' h k =
    let m : Module = run before reset_module in
    let q : Module = run quiet m in
    let e : Event = event.Access (Read supervisor width offset) in
    let z : Module = after e q in
    let y : Module = run waited (after enable (run early reset_module)) in
    λ same ul ul' alike.
    all_watched later z
    ∙ lifted_recovered after steps serial follows reset_module reset_serial before quiet later e (touches 0x0F 1 width offset) m q z
    (run_played before reset_module) (run_played quiet m) refl (status_steps q supervisor width offset h.shows)
    (first early enable waited k) (rise early enable waited k).enable (all waited (after enable (run early reset_module)))
    (all later' y) y.sci (compared early enable waited k) (ready early enable waited k)
    h.on h.awake (all_unbroken quiet m h.unbroken) (subst Ones (all_ops quiet m) h.ones)
    (subst (λ (os : List Op). resync_samples ≤ samples_in os) (all_ops quiet m) h.enough)
    (shows_none q supervisor width offset h.shows) (same ∙ ap settings (sym (still early enable waited k)))
    (all_unbroken later z ul) (all_unbroken later' y ul') (sym (all_ops later z) ∙ alike ∙ all_ops later' y)
    ∙ sym (all_watched later' y)

pub overrun : (es : List Event) → Overrun (log es reset_module)
overrun es =
    subst Overrun (sym (all_log es reset_module ∙ ap (marks.log (all es reset_module)) reset_serial))
    (lifted_overrun after steps serial follows reset_module reset_serial es)

pub afresh : Afresh
unfolding run does resets
afresh [] es m = refl
afresh (e ∷ past) es m = afresh past es (after e m)

pub stepped : Stepped
unfolding step
stepped m e = refl
