-- L14, lifted from the serial half to the module's events.
use mathlib.Core.Path.{◌≡◌, refl, ap, sym, subst, ◌∙◌}
use mathlib.Core.Bool.{false}
use mathlib.Core.List.{List, [], ◌∷◌}
use Rattle.sci.specs.model.Serial.{reset_sci}
use Rattle.sci.specs.claims.History as sci
use Rattle.sci.specs.claims.Overrun.{Mark, has_reset}
use Rattle.sci.specs.claims.Overrun as marks
use Rattle.sci.specs.claims.Balance.{OneRise}
use Rattle.sci.specs.claims.Balance as half
use Rattle.sci.specs.declared.serial.Sci.{Sci}
use Rattle.sci.proofs.Balance as serial
use Rattle.qsm.specs.model.State.{reset_module}
use Rattle.qsm.specs.declared.state.Module.{Module}
use Rattle.qsm.specs.declared.event.Event.{Event}
use Rattle.qsm.specs.model.Event.{step}
use Rattle.trace.specs.Records.{events, leaves}
use Rattle.claims_histories.specs.History.{run, log}
use Rattle.claims_histories.proofs.Lifted.{all, all_log, from_reset, reset_serial, afresh, stepped}
use Rattle.reception.specs.Report.{report}
use Rattle.claims_account.specs.Claims.{Balanced, SinceReset, since_last, WithResets, AsPlayed, OfRecords, Claims}
use Rattle.claims_account.proofs.Since.{no_reset, from_start}

-- The marks and the serial half of a module since a reset are those of its steps.
pub log_steps : (es : List Event) → log es reset_module ≡ marks.log (all es reset_module) reset_sci
log_steps es = all_log es reset_module ∙ ap (marks.log (all es reset_module)) reset_serial

serial_balanced : (es : List Event) → has_reset (log es reset_module) ≡ false → half.Balanced (log es reset_module) (run es reset_module).sci
serial_balanced es e =
    let steps : List sci.Step = all es reset_module in
    subst (λ (s : Sci). half.Balanced (log es reset_module) s) (sym (from_reset es))
    (subst (λ (h : List Mark). half.Balanced h (sci.run steps reset_sci)) (sym (log_steps es))
    ((serial.balance).balanced steps (subst (λ (h : List Mark). has_reset h ≡ false) (log_steps es) e)))

pub balanced : (es : List Event) → has_reset (log es reset_module) ≡ false → Balanced (log es reset_module) (report (run es reset_module))
balanced es e =
    let b = serial_balanced es e in
    record { balance = b.balance; taken = b.taken; lost = b.lost; reported = b.counts }

since_reset_holds : SinceReset
since_reset_holds m before es e =
    subst (λ (k : Module). Balanced (log es reset_module) (report k)) (sym (afresh before es m)) (balanced es e)

pub with_resets_holds : WithResets
with_resets_holds es =
    subst (λ (k : Module). Balanced (log (since_last [] es) reset_module) (report k)) (sym (from_start es))
    (balanced (since_last [] es) (no_reset es))

as_played_holds : AsPlayed
unfolding leaves run
as_played_holds [] m = refl
as_played_holds (e ∷ es) m = as_played_holds es (step m e).state ∙ ap (run es) (sym (stepped m e))

of_records_holds : OfRecords
of_records_holds rs =
    subst (λ (k : Module). Balanced (log (since_last [] (events rs)) reset_module) (report k)) (sym (as_played_holds (events rs) reset_module))
    (with_resets_holds (events rs))

pub accounted : Claims
accounted =
    record {
      since_reset = since_reset_holds;
      with_resets = with_resets_holds;
      as_played = as_played_holds;
      of_records = of_records_holds;
      one_rise = λ es. subst OneRise (sym (log_steps es)) ((serial.balance).one_rise (all es reset_module));
    }
