-- The lists of specs/Losing, by their steps, which are those of the serial half's.
use mathlib.Core.Bool.{Bool, true, false}
use mathlib.Core.List.{List}
use mathlib.Core.Path.{◌≡◌, refl, ap, subst, ◌∙◌}
use Prim.Native.Nat.{◌+◌}
use native.Mathlib.Omega.{arith}
use Rattle.steps.specs.Bits.{digit}
use Rattle.steps.specs.Iterate.{iterate}
use Rattle.sci.specs.model.Serial.{reset_sci, wrote_sccr0, wrote_sccr1, sccr0_guarded, sccr1_guarded}
use Rattle.sci.specs.claims.History.{Step}
use Rattle.sci.specs.claims.Overrun.{Mark, has_reset}
use Rattle.sci.specs.claims.Overrun as marks
use Rattle.sci.specs.claims.Losing as half
use Rattle.sci.proofs.Losing as computed
use Rattle.qsm.specs.model.State.{reset_module}
use Rattle.qsm.specs.model.Map.{decode}
use Rattle.qsm.specs.model.Lanes.{in_map, is_restricted}
use Rattle.qsm.specs.model.Serial.{put_serial, serial_unmodelled, serial_guarded}
use Rattle.qsm.specs.model.Word.{put, unmodelled, guarded}
use Rattle.qsm.specs.model.Access.{store, stored}
use Rattle.qsm.specs.model.Decision.{admitted, decide_read, stored_by, decide_stored, decide_write}
use Rattle.qsm.specs.model.Event.{does}
use Rattle.qsm.specs.model.Event as events
use Rattle.claims_histories.specs.History.{log}
use Rattle.claims_histories.proofs.Room.{since_plain}
use Rattle.claims_histories.proofs.Lifted.{all}
use Rattle.claims_account.specs.Claims.{Balanced}
use Rattle.claims_account.specs.Losing.{unread, asleep, addressed, Losing}
use Rattle.reception.specs.declared.account.Report.{Report}
use Rattle.claims_account.proofs.Lifting.{log_steps, balanced}

same_unread : all unread reset_module ≡ half.unread
unfolding reset_module does events.writes events.refused decide_write decide_stored decide_read admitted in_map is_restricted decode stored_by stored store iterate put unmodelled guarded put_serial serial_unmodelled serial_guarded wrote_sccr0 wrote_sccr1 sccr0_guarded sccr1_guarded
same_unread = since_plain unread (omega arith)

same_asleep : all asleep reset_module ≡ half.asleep
unfolding reset_module does events.writes events.refused decide_write decide_stored decide_read admitted in_map is_restricted decode stored_by stored store iterate put unmodelled guarded put_serial serial_unmodelled serial_guarded wrote_sccr0 wrote_sccr1 sccr0_guarded sccr1_guarded
same_asleep = since_plain asleep (omega arith)

same_addressed : all addressed reset_module ≡ half.addressed
unfolding reset_module does events.writes events.refused decide_write decide_stored decide_read admitted in_map is_restricted decode stored_by stored store iterate put unmodelled guarded put_serial serial_unmodelled serial_guarded wrote_sccr0 wrote_sccr1 sccr0_guarded sccr1_guarded
same_addressed = since_plain addressed (omega arith)

loses : log unread reset_module ≡ marks.log half.unread reset_sci
loses = log_steps unread ∙ ap (λ (es : List Step). marks.log es reset_sci) same_unread

-- Three taken, two lost, none delivered: the law says what is reported.
one_waits : (w : Bool) → 3 ≡ 0 + digit w + 2 → w ≡ true
one_waits true e = refl
one_waits false e = absurd (omega (arith, e))

reported : (h : List Mark) (r : Report) → Balanced h r → h ≡ marks.log half.unread reset_sci →
    ◌≡◌ {A = Report} r (record { taken = 3; lost = 2; waiting = true })
reported h r b e =
    let c = subst (λ (g : List Mark). Balanced g r) (e ∙ (computed.losing).loses) b in
    λ i. record { taken = c.taken i; lost = c.lost i; waiting = one_waits r.waiting c.balance i }

pub losing : Losing
losing =
    record {
      loses = loses ∙ (computed.losing).loses;
      reports =
          reported _ _ (balanced unread (ap has_reset (loses ∙ (computed.losing).loses))) loses;
      sleeps = log_steps asleep ∙ ap (λ (es : List Step). marks.log es reset_sci) same_asleep ∙ (computed.losing).sleeps;
      wakes = log_steps addressed ∙ ap (λ (es : List Step). marks.log es reset_sci) same_addressed ∙ (computed.losing).wakes;
    }
