-- The receiver compared with, built: SCCR0 and SCCR1 are written with equal settings, and then come the samples and reads.
use mathlib.Core.Path.{◌≡◌, refl, ap, sym, subst, ◌∙◌}
use mathlib.Core.Bool.{Bool, true}
use mathlib.Core.List.{List, [], ◌∷◌}
use Prim.Native.Nat.{ℕ, zero, suc, ◌+◌, ◌*◌, ◌≤◌, ◌<◌}
use native.Mathlib.Nat.{add-mul, mul-le-mul_right}
use native.Mathlib.Omega.{arith}
use lib.ListN.{replicate}
use Rattle.sci.specs.model.Control.{SCBR, settings}
use Rattle.sci.specs.model.Serial.{reset_sci, active}
use Rattle.sci.specs.claims.Line.{Op, sample, Ones, samples_in, resync_samples}
use Rattle.sci.specs.claims.History.{Step, writesSccr0, writesSccr1}
use Rattle.sci.specs.claims.History as sci
use Rattle.qsm.specs.model.State.{reset_module}
use Rattle.qsm.specs.model.Event.{clock_limit}
use Rattle.qsm.specs.declared.state.Module.{Module}
use Rattle.qsm.specs.declared.event.Access.TheVariants.{Read, Write}
use Rattle.qsm.specs.declared.event.Event.{Event}
use Rattle.qsm.specs.declared.event.Event.TheVariants as event
use Rattle.claims_histories.specs.History.{after, run, Unbroken, event_ops, ops}
use Rattle.claims_histories.specs.Demand3.{Recovers, Compared, Comparison, Comparable, Demand3}
use Rattle.claims_histories.proofs.Follows.{follows}
use Rattle.claims_histories.proofs.Room.{access_count, all_counted, reset_none}
use Rattle.claims_histories.proofs.Touches.{reads_alike_holds}
use Rattle.claims_histories.proofs.Lifted.{all, all_ops, all_unbroken, reset_serial, recovered, overrun, afresh, stepped}
use Rattle.claims_histories.proofs.Period.{Timed, no_sample}
use Rattle.claims_histories.proofs.Clocked.{period, samples_append}
use Rattle.claims_histories.proofs.Enough.{enough}
use Rattle.claims_histories.proofs.Answering.{fresh_answered}
use Rattle.claims_histories.proofs.Delivering.{delivered}
use Rattle.claims_histories.proofs.Giving.{events_for, Gives, gives}
use Rattle.claims_histories.proofs.Enabling.{written, rate, modelled, enable, on_lanes, rate_steps, enable_steps, Rated, rated, Enabled, enabled}

module _ (b c : ℕ) (l : suc b < 8192) (given : List Op) (room : (resync_samples + samples_in given) * (2 * suc b) ≤ clock_limit) where
  abbrev rated-module : Module
  rated-module = after (rate (suc b)) reset_module

  abbrev enabled-module : Module
  enabled-module = after (enable (written c)) rated-module

  at_rated : rated-module.sci ≡ sci.step (writesSccr0 (on_lanes (suc b)) true true) reset_sci
  unfolding sci.run
  at_rated =
      follows (rate (suc b)) reset_module
      ∙ ap (λ (es : List Step). sci.run es reset_module.sci) (rate_steps reset_module (suc b) (omega arith) (ap active reset_serial))
      ∙ ap (sci.step (writesSccr0 (on_lanes (suc b)) true true)) reset_serial

  is_rated : Rated (suc b) rated-module.sci
  is_rated = subst (Rated (suc b)) (sym at_rated) (rated (suc b) l)

  at_enabled : enabled-module.sci ≡ sci.step (writesSccr1 (on_lanes (written c)) true true) rated-module.sci
  unfolding sci.run
  at_enabled =
      follows (enable (written c)) rated-module
      ∙ ap (λ (es : List Step). sci.run es rated-module.sci)
      (enable_steps rated-module (written c) (omega arith) (modelled c) is_rated.still)

  is_enabled : Enabled (suc b) c enabled-module.sci
  is_enabled = subst (Enabled (suc b) c) (sym at_enabled) (enabled (suc b) c rated-module.sci is_rated)

  timed : Timed (2 * suc b) 0 enabled-module.sci
  timed = record { on = is_enabled.on; rate = omega (arith, is_enabled.rate, l); count = is_enabled.count }

  -- Nothing is counted yet.
  fresh : enabled-module.clock ≡ 0
  fresh = access_count (Write true 2 0x0A (written c)) rated-module ∙ access_count (Write true 2 0x08 (suc b)) reset_module ∙ reset_none

  abbrev ones : List Op
  ones = replicate resync_samples (sample true)

  abbrev waited : List Event
  waited = events_for (suc b) ones

  waits : Gives (suc b) ones waited enabled-module
  waits = gives b ones enabled-module (omega (arith, fresh, room, add-mul resync_samples (samples_in given) (2 * suc b))) timed

  goes_on : Gives (suc b) given (events_for (suc b) given) (run waited enabled-module)
  goes_on = gives b given (run waited enabled-module) (omega (arith, fresh, waits.count, room, add-mul resync_samples (samples_in given) (2 * suc b))) waits.timed

  compared : Compared (rate (suc b) ∷ []) (enable (written c)) waited
  unfolding run
  compared =
      record {
        off = (is_rated.off, tt);
        rises = is_enabled.on;
        awake = is_enabled.awake;
        unbroken = waits.unbroken;
        ones = subst Ones (sym waits.gives) tt;
        enough = subst (λ (os : List Op). resync_samples ≤ samples_in os) (sym waits.gives) (omega arith);
      }

  comparison : (m : Module) → SCBR m.sci.sccr0 ≡ suc b → m.sci.sccr1 ≡ c → Comparison m given
  unfolding run
  comparison m e f =
      record {
        early = rate (suc b) ∷ [];
        enable = enable (written c);
        waited = waited;
        later = events_for (suc b) given;
        compared = compared;
        exactly = ap samples_in waits.gives;
        rate = omega (arith, is_enabled.rate, l, e);
        equal = ap settings f ∙ sym is_enabled.equal;
        unbroken = goes_on.unbroken;
        same = sym goes_on.gives;
      }

by_rate_holds : (b : ℕ) (m : Module) (quiet : List Event) (given : List Op) → SCBR m.sci.sccr0 ≡ b → Unbroken quiet m →
    resync_samples ≤ samples_in (ops quiet m) → (resync_samples + samples_in given) * (2 * b) ≤ clock_limit → Comparison m given
by_rate_holds zero m quiet given e u h room =
    absurd (omega (arith, h, ap samples_in (all_ops quiet m) ∙ no_sample (all quiet m) m.sci e (all_unbroken quiet m u)))
by_rate_holds (suc b) m quiet given e u h room = comparison b m.sci.sccr1 (omega (arith, e)) given room m e refl

-- The clocks that the receiver compared with takes stay within the module's own count.
within : (before quiet : List Event) (supervisor : Bool) (width offset : ℕ) (later : List Event) →
    Recovers (run before reset_module) quiet supervisor width offset →
    Unbroken later (after (event.Access (Read supervisor width offset)) (run quiet (run before reset_module))) →
    (resync_samples + samples_in (ops later (after (event.Access (Read supervisor width offset)) (run quiet (run before reset_module)))))
    * period (run before reset_module).sci
    ≤ clock_limit
unfolding ops
within before quiet supervisor width offset later h u =
    let m : Module = run before reset_module in
    let e : Event = event.Access (Read supervisor width offset) in
    let z : Module = after e (run quiet m) in
    let all-of-them = enough before quiet (e ∷ later) resync_samples h.unbroken (refl, u) h.enough in
    let fewer : resync_samples + samples_in (ops later z) ≤ resync_samples + samples_in (ops (e ∷ later) (run quiet m)) =
    omega (arith, samples_append (event_ops e (run quiet m)) (ops later z)) in
    omega (arith, mul-le-mul_right (period m.sci) fewer, all-of-them)

comparable : Comparable
comparable before quiet supervisor width offset later h u =
    let m : Module = run before reset_module in
    by_rate_holds (SCBR m.sci.sccr0) m quiet _ refl h.unbroken h.enough (within before quiet supervisor width offset later h u)

pub demand3 : Demand3
demand3 =
    record {
      recovered = recovered;
      comparable = comparable;
      stepped = stepped;
      reads_alike = reads_alike_holds;
      fresh_answered = fresh_answered;
      afresh = afresh;
      counted = all_counted;
      delivered = delivered;
      overrun = overrun;
    }
