-- Writes of SCCR1 that reconfigure nothing: RIE set beside RE at a receiver, TE cleared at a sender.
use mathlib.Core.Bool.{Bool, true, false, cond, not, ◌&&◌, and-false}
use mathlib.Core.List.{[], ◌∷◌}
use mathlib.Core.Path.{◌≡◌, refl, ap, sym, subst, ◌∙◌}
use Prim.Native.Nat.{ℕ, ◌*◌, ◌/◌, ◌%◌}
use lib.Dec.{eqb}
use Rattle.steps.specs.Iterate.{iterate}
use Rattle.sci.specs.model.Control.{RE, settings}
use Rattle.sci.specs.model.Serial.{active, wrote_sccr1, sccr1_guarded}
use Rattle.sci.specs.claims.History as sci
use Rattle.sci.specs.claims.Wire.{step}
use Rattle.sci.specs.claims.Wire as wire
use Rattle.sci.specs.declared.serial.Sci.{Sci}
use Rattle.sci.proofs.Frames.{by_cond}
use Rattle.qsm.specs.model.Map.{decode}
use Rattle.qsm.specs.model.Lanes.{in_map}
use Rattle.qsm.specs.model.Word.{unmodelled, guarded}
use Rattle.qsm.specs.model.Serial.{serial_unmodelled, serial_guarded}
use Rattle.qsm.specs.model.Access.{store, stored}
use Rattle.qsm.specs.model.Decision.{permits, admitted, stored_by, decide_stored, decide_write}
use Rattle.qsm.specs.declared.state.Module.{Module}
use Rattle.qsm.specs.declared.event.Access.TheVariants.{Write}
use Rattle.qsm.specs.declared.event.Event.TheVariants as event
use Rattle.claims_histories.specs.History.{after}
use Rattle.claims_histories.specs.Demand2.{SameSettings, SameReception}
use Rattle.claims_histories.proofs.Follows.{follows}
use Rattle.claims_histories.proofs.Given.{makes}

-- A write of SCCR1 is let through or not.
by_control : (P : Sci → Type 0) (m : Module) (v : ℕ) → P m.sci → P (wrote_sccr1 m.sci (v % 65536 * 65536 / 65536) true true) →
    P (after (event.Access (Write true 2 0x0A v)) m).sci
unfolding decode sci.run sci.step
by_control P m v h k =
    subst P (sym (follows (event.Access (Write true 2 0x0A v)) m)) (go (permits (decide_write m true 2 0x0A v)))
  where
    go : (b : Bool) → P (sci.run (cond b (sci.writesSccr1 (v % 65536 * 65536 / 65536) true true ∷ []) []) m.sci)
    go true = by_cond P (sccr1_guarded m.sci (v % 65536 * 65536 / 65536) true true) (λ _. h) (λ _. k)
    go false = h

record Left (s r : Sci) : Type 0 where
  rate : r.sccr0 ≡ s.sccr0
  set : settings r.sccr1 ≡ settings s.sccr1

record LeftOn (s r : Sci) : Type 0 where
  left : Left s r
  on : RE r.sccr1 ≡ RE s.sccr1
  asleep : r.receiver.asleep ≡ s.receiver.asleep

-- RIE set beside RE; TE cleared.
pub request_stays : (m : Module) → m.sci.sccr1 ≡ 4 → m.sci.receiver.asleep ≡ false →
    SameReception m (after (event.Access (Write true 2 0x0A 0x24)) m)
unfolding wrote_sccr1
request_stays m e a =
    let l : LeftOn m.sci (after (event.Access (Write true 2 0x0A 0x24)) m).sci =
    by_control (LeftOn m.sci) m 0x24 (record { left = record { rate = refl; set = refl }; on = refl; asleep = refl })
    (record { left = record { rate = refl; set = ap settings (sym e) }; on = ap RE (sym e); asleep = sym a }) in
    record { same = record { rate = l.left.rate; set = l.left.set }; on = l.on; asleep = l.asleep }

pub stop_keeps : (m : Module) → m.sci.sccr1 ≡ 8 → SameSettings m (after (event.Access (Write true 2 0x0A 0)) m)
unfolding wrote_sccr1
stop_keeps m e =
    let l : Left m.sci (after (event.Access (Write true 2 0x0A 0)) m).sci =
    by_control (Left m.sci) m 0 (record { rate = refl; set = refl }) (record { rate = refl; set = ap settings (sym e) }) in
    record { rate = l.rate; set = l.set }

-- The request is let through.
request_let : (m : Module) → m.sci.sccr1 ≡ 4 → sccr1_guarded m.sci 0x24 true true ≡ false
unfolding sccr1_guarded
request_let m e = ap (λ (k : ℕ). active m.sci && not (eqb 0 (settings k))) e ∙ and-false (active m.sci)

pub request_given : (m : Module) → m.sci.sccr1 ≡ 4 → makes (Write true 2 0x0A 0x24) m ≡ wire.write_control 0x24 true true ∷ []
unfolding decide_write decide_stored admitted in_map decode stored_by stored store iterate unmodelled guarded serial_unmodelled serial_guarded
request_given m e = rw (request_let m e, request_let m e)
