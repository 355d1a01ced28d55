-- While RE stays clear, and where it rises.
use mathlib.Core.Path.{◌≡◌, refl, ap, sym, ◌∙◌}
use mathlib.Core.Bool.{Bool, true, false, cond, true≢false}
use mathlib.Core.List.{List, [], ◌∷◌}
use Prim.Native.Nat.{ℕ, zero, suc}
use lib.Dec.{eqb}
use Rattle.sci.specs.model.Control.{RE}
use Rattle.sci.specs.claims.History.{Step, reset, clock, reads, step}
use Rattle.sci.specs.claims.History as sci
use Rattle.sci.specs.claims.Demand3.{Off}
use Rattle.sci.specs.declared.serial.Sci.{Sci}
use Rattle.sci.proofs.History.{clocks, clocks_unbroken}
use Rattle.sci.proofs.Follow.{step_sccr1, run_sccr1}
use Rattle.qsm.specs.model.Lanes.{upper_lane, lower_lane, lined, touches}
use Rattle.qsm.specs.model.Decision.{permits, decide_write}
use Rattle.qsm.specs.declared.state.Module.{Module}
use Rattle.qsm.specs.declared.event.Access.TheVariants.{Read, Write}
use Rattle.qsm.specs.declared.event.Event.{Event}
use Rattle.qsm.specs.declared.event.Event.TheVariants.{Reset, Hold}
use Rattle.qsm.specs.declared.event.Event.TheVariants as event
use Rattle.claims_histories.specs.History.{after, receiver_read, played_clocks}
use Rattle.claims_histories.proofs.Rise.{on, Rise, store_off, store_rise}
use Rattle.claims_histories.proofs.Follows.{write_steps, steps, follows}
use Rattle.claims_histories.proofs.Unbroken.{read_unbroken}

clocks_off : (n : ℕ) (rxd : Bool) (s : Sci) → on s ≡ false → Off (clocks n rxd) s
clocks_off zero rxd s h = tt
clocks_off (suc n) rxd s h =
    let k : on (step (clock rxd) s) ≡ false = ap RE (step_sccr1 (clock rxd) s refl) ∙ h in
    (k, clocks_off n rxd (step (clock rxd) s) k)

read_off : (b scsr scdr : Bool) (s : Sci) → on s ≡ false → Off (cond b (reads scsr scdr ∷ []) []) s
unfolding step
read_off true scsr scdr s h = (h, tt)
read_off false scsr scdr s h = tt

write_off : (b : Bool) (es : List Step) (s : Sci) → (on (sci.run es s) ≡ false → Off es s) →
    on (sci.run (cond b es []) s) ≡ false → Off (cond b es []) s
write_off true es s f h = f h
write_off false es s f h = tt

reset_off : (s : Sci) → Off (reset ∷ []) s
unfolding step
reset_off s = (refl, tt)

pub event_off : (e : Event) (m : Module) → on m.sci ≡ false → on (after e m).sci ≡ false → Off (steps e m) m.sci
event_off Reset m h g = reset_off m.sci
event_off (Hold pins rxd n) m h g = clocks_off (played_clocks m n) rxd m.sci h
event_off (event.Access (Read supervisor width offset)) m h g =
    read_off (receiver_read m supervisor width offset) (touches 0x0C 2 width offset) (touches 0x0F 1 width offset) m.sci h
event_off (event.Access (Write supervisor width offset value)) m h g =
    write_off (permits (decide_write m supervisor width offset value)) (write_steps width offset value) m.sci
    (store_off (eqb width 4) offset (lined width value) (upper_lane width offset) (lower_lane width offset) m.sci h)
    (ap on (sym (follows (event.Access (Write supervisor width offset value)) m)) ∙ g)

kept_rise : (es : List Step) (s t : Sci) → sci.Unbroken es s → t ≡ sci.run es s → on s ≡ false → on t ≡ true → Rise es s
kept_rise es s t u e h g = absurd (true≢false (sym g ∙ ap on e ∙ ap RE (run_sccr1 es s u) ∙ h))

reset_rise : (s t : Sci) → t ≡ sci.run (reset ∷ []) s → on t ≡ true → Rise (reset ∷ []) s
unfolding sci.run step
reset_rise s t e g = absurd (true≢false (sym g ∙ ap on e))

write_rise : (b : Bool) (es : List Step) (s t : Sci) → t ≡ sci.run (cond b es []) s → on s ≡ false → on t ≡ true →
    (on (sci.run es s) ≡ true → Rise es s) → Rise (cond b es []) s
unfolding sci.run
write_rise true es s t e h g f = f (ap on (sym e) ∙ g)
write_rise false es s t e h g f = absurd (true≢false (sym g ∙ ap on e ∙ h))

pub event_rise : (e : Event) (m : Module) → on m.sci ≡ false → on (after e m).sci ≡ true → Rise (steps e m) m.sci
event_rise Reset m h g = reset_rise m.sci (after Reset m).sci (follows Reset m) g
event_rise (Hold pins rxd n) m h g =
    kept_rise (clocks (played_clocks m n) rxd) m.sci _ (clocks_unbroken (played_clocks m n) rxd m.sci) (follows (Hold pins rxd n) m) h g
event_rise (event.Access (Read supervisor width offset)) m h g =
    kept_rise _ m.sci _
    (read_unbroken (receiver_read m supervisor width offset) (touches 0x0C 2 width offset) (touches 0x0F 1 width offset) m.sci)
    (follows (event.Access (Read supervisor width offset)) m) h g
event_rise (event.Access (Write supervisor width offset value)) m h g =
    write_rise (permits (decide_write m supervisor width offset value)) (write_steps width offset value) m.sci _
    (follows (event.Access (Write supervisor width offset value)) m) h g
    (store_rise (eqb width 4) offset (lined width value) (upper_lane width offset) (lower_lane width offset) m.sci h)
