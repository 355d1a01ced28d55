-- The lists of specs/Witness, by their steps, which are those of the serial half's witness.
use mathlib.Core.Bool.{true, false}
use mathlib.Core.List.{List, [], ◌∷◌}
use mathlib.Core.Path.{◌≡◌, refl, ap, sym, subst, ◌∙◌}
use Prim.Native.Nat.{◌^◌, ◌≤◌}
use native.Mathlib.Omega.{arith}
use Rattle.steps.specs.Iterate.{iterate}
use Rattle.sci.specs.model.Control.{RE, settings}
use Rattle.sci.specs.claims.Line.{Op, Ones, samples_in, resync_samples, shown, no_flag}
use Rattle.sci.specs.model.Serial.{reset_sci, wrote_sccr0, wrote_sccr1, sccr0_guarded, sccr1_guarded}
use Rattle.sci.specs.claims.History.{Step}
use Rattle.sci.specs.claims.History as sci
use Rattle.sci.specs.claims.Overrun as marks
use Rattle.sci.specs.claims.Witness.{words_of}
use Rattle.sci.specs.claims.Witness as half
use Rattle.sci.specs.declared.serial.Sci.{Sci}
use Rattle.sci.proofs.Witness as computed
use Rattle.qsm.specs.model.State.{reset_module}
use Rattle.qsm.specs.model.Map.{decode}
use Rattle.qsm.specs.model.Lanes.{in_map, is_restricted}
use Rattle.qsm.specs.model.Serial.{put_serial, serial_unmodelled, serial_guarded}
use Rattle.qsm.specs.model.Word.{put, unmodelled, guarded}
use Rattle.qsm.specs.model.Access.{store, stored}
use Rattle.qsm.specs.model.Decision.{permits, admitted, decide_read, stored_by, decide_stored, decide_write}
use Rattle.qsm.specs.model.Event.{does}
use Rattle.qsm.specs.model.Event as events
use Rattle.qsm.specs.declared.state.Module.{Module}
use Rattle.qsm.specs.declared.event.Access.TheVariants.{Read, Write}
use Rattle.claims_histories.specs.History.{after, run, ops, watched, log}
use Rattle.claims_histories.specs.Demand3.{Recovers, Compared}
use Rattle.claims_histories.specs.Witness.{rate, enable, before, quiet, waited, later, losing, started, enabled, recovering, waiting, status, Met}
use Rattle.claims_histories.proofs.Follows.{steps, follows}
use Rattle.claims_histories.proofs.Room.{access_count, run_count, all_plain, since_plain, since_count}
use Rattle.claims_histories.proofs.Shown.{word_shows}
use Rattle.claims_histories.proofs.Nine.{by_byte, by_word, by_long}
use Rattle.claims_histories.proofs.Lifted.{all, all_run, all_ops, all_watched, all_log, from_reset, reset_serial}

same_before : all before reset_module ≡ half.before
unfolding reset_module does events.writes events.refused decide_write decide_stored decide_read admitted in_map is_restricted decode stored_by stored store iterate put unmodelled guarded put_serial serial_unmodelled serial_guarded wrote_sccr0 wrote_sccr1 sccr0_guarded sccr1_guarded
same_before = since_plain before (omega arith)

same_losing : all losing reset_module ≡ half.losing
unfolding reset_module does events.writes events.refused decide_write decide_stored decide_read admitted in_map is_restricted decode stored_by stored store iterate put unmodelled guarded put_serial serial_unmodelled serial_guarded wrote_sccr0 wrote_sccr1 sccr0_guarded sccr1_guarded
same_losing = since_plain losing (omega arith)

same_enabled : all (rate ∷ (enable ∷ [])) reset_module ≡ half.rate ∷ (half.enable ∷ [])
unfolding reset_module does events.writes events.refused decide_write decide_stored decide_read admitted in_map is_restricted decode stored_by stored store iterate put unmodelled guarded put_serial serial_unmodelled serial_guarded wrote_sccr0 wrote_sccr1 sccr0_guarded sccr1_guarded
same_enabled = refl

same_rate : all (rate ∷ []) reset_module ≡ half.rate ∷ []
unfolding reset_module does events.writes events.refused decide_write decide_stored decide_read admitted in_map is_restricted decode stored_by stored store iterate put unmodelled guarded put_serial serial_unmodelled serial_guarded wrote_sccr0 wrote_sccr1 sccr0_guarded sccr1_guarded
same_rate = refl

same_quiet : (m : Module) → m.clock ≤ 2 ^ 63 → all quiet m ≡ half.quiet
unfolding decide_read admitted in_map decode
same_quiet m h = all_plain quiet m (omega arith)

same_later : (m : Module) → m.clock ≤ 2 ^ 63 → all later m ≡ half.later
unfolding decide_read admitted in_map decode
same_later m h = all_plain later m (omega arith)

same_waited : (m : Module) → m.clock ≤ 2 ^ 63 → all waited m ≡ half.samples resync_samples true
same_waited m h = all_plain waited m (omega arith)

permitted : (m : Module) → permits (decide_read m true 2 12) ≡ true
unfolding decide_read admitted in_map decode
permitted m = refl

same_status : (m : Module) → steps status m ≡ sci.reads true false ∷ []
unfolding decide_read admitted in_map decode
same_status m = refl

-- The counts are far from their end.
started_count : started.clock ≤ 2 ^ 62
started_count = omega (arith, since_count before)

recovering_count : recovering.clock ≤ 2 ^ 63
recovering_count = omega (arith, access_count (Read true 2 0x0C) (run quiet started), run_count quiet started, started_count)

enabled_count : enabled.clock ≤ 2 ^ 62
enabled_count = omega (arith, access_count (Write true 2 0x0A 4) (run (rate ∷ []) reset_module), since_count (rate ∷ []))

waiting_count : waiting.clock ≤ 2 ^ 63
waiting_count = omega (arith, run_count waited enabled, enabled_count)

-- The serial halves.
at_started : started.sci ≡ sci.run half.before reset_sci
at_started = from_reset before ∙ ap (λ (es : List Step). sci.run es reset_sci) same_before

at_quiet : (run quiet started).sci ≡ sci.run half.quiet (sci.run half.before reset_sci)
at_quiet =
    all_run quiet started ∙ ap (λ (es : List Step). sci.run es started.sci) (same_quiet started (omega (arith, started_count)))
    ∙ ap (sci.run half.quiet) at_started

at_recovering : recovering.sci ≡ half.recovering
unfolding sci.run
at_recovering =
    follows status (run quiet started)
    ∙ ap (λ (es : List Step). sci.run es (run quiet started).sci) (same_status (run quiet started))
    ∙ ap (sci.step (sci.reads true false)) at_quiet

at_rate : (run (rate ∷ []) reset_module).sci ≡ sci.step half.rate reset_sci
unfolding sci.run
at_rate = from_reset (rate ∷ []) ∙ ap (λ (es : List Step). sci.run es reset_sci) same_rate

at_enabled : enabled.sci ≡ sci.step half.enable (sci.step half.rate reset_sci)
unfolding run sci.run
at_enabled = from_reset (rate ∷ (enable ∷ [])) ∙ ap (λ (es : List Step). sci.run es reset_sci) same_enabled

at_waiting : waiting.sci ≡ half.waiting
at_waiting =
    all_run waited enabled ∙ ap (λ (es : List Step). sci.run es enabled.sci) (same_waited enabled (omega (arith, enabled_count)))
    ∙ ap (sci.run (half.samples resync_samples true)) at_enabled

-- What reaches their receivers.
quiet_ops : ops quiet started ≡ sci.ops half.quiet (sci.run half.before reset_sci)
quiet_ops =
    all_ops quiet started ∙ ap (λ (es : List Step). sci.ops es started.sci) (same_quiet started (omega (arith, started_count)))
    ∙ ap (sci.ops half.quiet) at_started

waited_ops : ops waited enabled ≡ sci.ops (half.samples resync_samples true) (sci.step half.enable (sci.step half.rate reset_sci))
waited_ops =
    all_ops waited enabled ∙ ap (λ (es : List Step). sci.ops es enabled.sci) (same_waited enabled (omega (arith, enabled_count)))
    ∙ ap (sci.ops (half.samples resync_samples true)) at_enabled

later_ops : (m : Module) (s : Sci) → m.clock ≤ 2 ^ 63 → m.sci ≡ s → ops later m ≡ sci.ops half.later s
later_ops m s few e =
    all_ops later m ∙ ap (λ (es : List Step). sci.ops es m.sci) (same_later m few) ∙ ap (sci.ops half.later) e

later_watched : (m : Module) (s : Sci) → m.clock ≤ 2 ^ 63 → m.sci ≡ s → watched later m ≡ sci.watched half.later s
later_watched m s few e =
    all_watched later m ∙ ap (λ (es : List Step). sci.watched es m.sci) (same_later m few) ∙ ap (sci.watched half.later) e

losing_log : log losing reset_module ≡ marks.log half.losing reset_sci
losing_log =
    all_log losing reset_module ∙ ap (λ (es : List Step). marks.log es reset_module.sci) same_losing
    ∙ ap (marks.log half.losing) reset_serial

clear_quiet : shown (run quiet started).sci.status ≡ no_flag
clear_quiet = ap (λ (s : Sci). shown s.status) at_quiet ∙ (computed.met).recovers.clear

recovers : Recovers started quiet true 2 0x0C
recovers =
    record {
      on = ap (λ (s : Sci). RE s.sccr1) at_started ∙ (computed.met).recovers.on;
      awake = ap (λ (s : Sci). s.receiver.asleep) at_started ∙ (computed.met).recovers.awake;
      unbroken = (refl, (refl, (refl, tt)));
      ones = subst Ones (sym quiet_ops) (computed.met).recovers.ones;
      enough = subst (λ (os : List Op). resync_samples ≤ samples_in os) (sym quiet_ops) (computed.met).recovers.enough;
      shows = word_shows (run quiet started) true (permitted (run quiet started)) clear_quiet;
    }

rate_off : RE (after rate reset_module).sci.sccr1 ≡ false
unfolding run
rate_off = ap (λ (s : Sci). RE s.sccr1) at_rate ∙ (computed.met).compared.off.0

compared : Compared (rate ∷ []) enable waited
unfolding sci.run
compared =
    record {
      off = (rate_off, tt);
      rises = ap (λ (s : Sci). RE s.sccr1) at_enabled ∙ (computed.met).compared.rises;
      awake = ap (λ (s : Sci). s.receiver.asleep) at_enabled ∙ (computed.met).compared.awake;
      unbroken = (refl, tt);
      ones = subst Ones (sym waited_ops) (computed.met).compared.ones;
      enough = subst (λ (os : List Op). resync_samples ≤ samples_in os) (sym waited_ops) (computed.met).compared.enough;
    }

pub met : Met
met =
    record {
      recovers = recovers;
      compared = compared;
      equal =
          ap (λ (s : Sci). settings s.sccr1) at_started ∙ (computed.met).equal
          ∙ ap (λ (s : Sci). settings s.sccr1) (sym at_enabled);
      unbroken = (refl, (refl, (refl, (refl, (refl, (refl, (refl, (refl, tt))))))));
      unbroken' = (refl, (refl, (refl, (refl, (refl, (refl, (refl, (refl, tt))))))));
      alike =
          later_ops recovering half.recovering recovering_count at_recovering ∙ (computed.met).alike
          ∙ sym (later_ops waiting half.waiting waiting_count at_waiting);
      delivers = ap words_of (later_watched recovering half.recovering recovering_count at_recovering) ∙ (computed.met).delivers;
      loses = losing_log ∙ (computed.met).loses;
      by_byte = by_byte;
      by_word = by_word;
      by_long = by_long;
    }
