-- The module's events as steps of its serial half.
use mathlib.Core.Path.{◌≡◌, refl, ap, sym, ◌∙◌}
use mathlib.Core.Bool.{Bool, true, false, cond, ◌&&◌, true≢false, false≢true}
use mathlib.Core.List.{List, [], ◌∷◌}
use Prim.Native.Nat.{ℕ, ◌+◌}
use native.Mathlib.Omega.{arith}
use borrow.Author.Tests.{ltb-true, lt-ltb}
use lib.Dec.{eqb, ltb}
use Rattle.sci.specs.claims.History.{Step, reset, reads, step}
use Rattle.sci.specs.claims.History as sci
use Rattle.sci.specs.declared.serial.Sci.{Sci}
use Rattle.sci.proofs.History.{clocks, run_clocks, reads_status_holds, reads_data_holds, reads_both, reads_neither}
use Rattle.qspi.specs.declared.Qspi.{Qspi}
use Rattle.qsm.specs.model.State.{reset_module, with_sci, with_qspi}
use Rattle.qsm.specs.model.Lanes.{upper_lane, lower_lane, lined, touches}
use Rattle.qsm.specs.model.Serial.{serial_read}
use Rattle.qsm.specs.model.Decision.{permits, admitted, shaped, fits, decide_read, decide_stored, decide_write, stored_by}
use Rattle.qsm.specs.model.Event.{done, held, after_read, refused, resets, does}
use Rattle.qsm.specs.model.Event as events
use Rattle.qsm.proofs.Clocks.{apart}
use Rattle.qsm.proofs.Limit.{hold_if}
use Rattle.qsm.specs.declared.state.Module.{Module}
use Rattle.qsm.specs.declared.decision.Decision.{Decision}
use Rattle.qsm.specs.declared.event.Access.TheVariants.{Read, Write}
use Rattle.qsm.specs.declared.event.Event.{Event}
use Rattle.qsm.specs.declared.event.Event.TheVariants.{Reset, Hold}
use Rattle.qsm.specs.declared.event.Event.TheVariants as event
use Rattle.claims_histories.specs.History.{after, receiver_read, played_clocks}
use Rattle.claims_histories.proofs.Words.{store_steps, stored_follows}
use Rattle.claims_histories.proofs.Tested.{tested_unguarded}

-- The steps of an event.
abbrev pub write_steps : ℕ → ℕ → ℕ → List Step
write_steps width offset value =
    store_steps (eqb width 4) offset (lined width value) (upper_lane width offset) (lower_lane width offset)

abbrev pub read_step : ℕ → ℕ → Step
read_step width offset = reads (touches 0x0C 2 width offset) (touches 0x0F 1 width offset)

abbrev pub steps : Event → Module → List Step
steps Reset m = reset ∷ []
steps (Hold pins rxd n) m = clocks (played_clocks m n) rxd
steps (event.Access (Read supervisor width offset)) m =
    cond (receiver_read m supervisor width offset) (read_step width offset ∷ []) []
steps (event.Access (Write supervisor width offset value)) m =
    cond (permits (decide_write m supervisor width offset value)) (write_steps width offset value) []

-- A read that touches none of bytes 0C to 0F touches neither SCSR nor SCDR's low byte.
pub refuted : (b : Bool) → (b ≡ true → ⊥) → b ≡ false
refuted true f = absurd (f refl)
refuted false f = refl

pub and_left : (a b : Bool) → a && b ≡ true → a ≡ true
and_left true b e = refl
and_left false b e = absurd (false≢true e)

pub and_right : (a b : Bool) → a && b ≡ true → b ≡ true
and_right true b e = e
and_right false b e = absurd (false≢true e)

pub and_true : (a b : Bool) → a ≡ true → b ≡ true → a && b ≡ true
and_true true b e f = f
and_true false b e f = absurd (false≢true e)

untouched_scsr : (width offset : ℕ) → touches 0x0C 4 width offset ≡ false → touches 0x0C 2 width offset ≡ false
untouched_scsr width offset e =
    refuted (touches 0x0C 2 width offset)
    (λ t. true≢false (sym (and_true (ltb offset 16) (ltb 12 (offset + width))
    (lt-ltb offset 16 (omega (arith, ltb-true offset 14 (and_left (ltb offset 14) _ t))))
    (and_right (ltb offset 14) _ t)) ∙ e))

untouched_scdr : (width offset : ℕ) → touches 0x0C 4 width offset ≡ false → touches 0x0F 1 width offset ≡ false
untouched_scdr width offset e =
    refuted (touches 0x0F 1 width offset)
    (λ t. true≢false (sym (and_true (ltb offset 16) (ltb 12 (offset + width))
    (and_left (ltb offset 16) _ t)
    (lt-ltb 12 (offset + width) (omega (arith, ltb-true 15 (offset + width) (and_right (ltb offset 16) _ t))))) ∙ e))

serial_read_holds : (scsr scdr : Bool) (s : Sci) → serial_read scsr scdr s ≡ step (reads scsr scdr) s
unfolding serial_read
serial_read_holds true true s = sym (reads_both s)
serial_read_holds true false s = sym (reads_status_holds s)
serial_read_holds false true s = sym (reads_data_holds s)
serial_read_holds false false s = sym (reads_neither s)

read_follows : (b t scsr scdr : Bool) → (t ≡ false → scsr ≡ false) → (t ≡ false → scdr ≡ false) →
    (d : Decision) (m : Module) (q : Qspi) (v : ℕ) →
    (cond b (done (with_qspi (with_sci m (serial_read scsr scdr m.sci)) q) 0 v) (refused d m)).state.sci
    ≡ sci.run (cond (b && t) (reads scsr scdr ∷ []) []) m.sci
unfolding refused sci.run
read_follows false t scsr scdr h₀ h₁ d m q v = refl
read_follows true true scsr scdr h₀ h₁ d m q v = serial_read_holds scsr scdr m.sci
read_follows true false scsr scdr h₀ h₁ d m q v =
    serial_read_holds scsr scdr m.sci ∙ rw (h₀ refl, h₁ refl) (reads_neither m.sci)

write_follows : (b : Bool) (d : Decision) (m left : Module) (es : List Step) →
    (b ≡ true → left.sci ≡ sci.run es m.sci) →
    (cond b (done left 0 0) (refused d m)).state.sci ≡ sci.run (cond b es []) m.sci
unfolding refused sci.run
write_follows true d m left es f = f refl
write_follows false d m left es f = refl

permitted_follows : (m : Module) (supervisor : Bool) (width offset value : ℕ) →
    permits (decide_write m supervisor width offset value) ≡ true →
    (stored_by m width offset value).state.sci ≡ sci.run (write_steps width offset value) m.sci
unfolding decide_write decide_stored stored_by
permitted_follows m supervisor width offset value e =
    stored_follows (eqb width 4) m offset (lined width value) (upper_lane width offset) (lower_lane width offset)
    (tested_unguarded (admitted m (shaped width offset && fits width value) supervisor width offset)
    (stored_by m width offset value).unmodelled (stored_by m width offset value).guarded e)

hold_follows : (pins : ℕ) (rxd : Bool) (n : ℕ) (m : Module) →
    (after (Hold pins rxd n) m).sci ≡ sci.run (clocks (played_clocks m n) rxd) m.sci
unfolding events.clocks sci.run
hold_follows pins rxd n m =
    hold_if (λ d. d.state.sci ≡ sci.run (clocks (played_clocks m n) rxd) m.sci) m pins rxd n (λ h. rw h)
    (λ h. rw h (ap (λ (k : Module). k.sci) (apart n rxd (held m pins)) ∙ sym (run_clocks n rxd m.sci)))

reset_follows : (m : Module) → (after Reset m).sci ≡ sci.run (reset ∷ []) m.sci
unfolding does resets reset_module sci.run step
reset_follows m = refl

access_read_follows : (supervisor : Bool) (width offset : ℕ) (m : Module) →
    (after (event.Access (Read supervisor width offset)) m).sci
    ≡ sci.run (steps (event.Access (Read supervisor width offset)) m) m.sci
unfolding does events.reads after_read
access_read_follows supervisor width offset m =
    read_follows (permits (decide_read m supervisor width offset)) (touches 0x0C 4 width offset) (touches 0x0C 2 width offset)
    (touches 0x0F 1 width offset) (untouched_scsr width offset) (untouched_scdr width offset)
    (decide_read m supervisor width offset) m _ _

access_write_follows : (supervisor : Bool) (width offset value : ℕ) (m : Module) →
    (after (event.Access (Write supervisor width offset value)) m).sci
    ≡ sci.run (steps (event.Access (Write supervisor width offset value)) m) m.sci
unfolding does events.writes decide_write
access_write_follows supervisor width offset value m =
    write_follows (permits (decide_write m supervisor width offset value)) (decide_write m supervisor width offset value) m
    (stored_by m width offset value).state (write_steps width offset value)
    (permitted_follows m supervisor width offset value)

pub follows : (e : Event) (m : Module) → (after e m).sci ≡ sci.run (steps e m) m.sci
follows Reset m = reset_follows m
follows (Hold pins rxd n) m = hold_follows pins rxd n m
follows (event.Access (Read supervisor width offset)) m = access_read_follows supervisor width offset m
follows (event.Access (Write supervisor width offset value)) m = access_write_follows supervisor width offset value m
