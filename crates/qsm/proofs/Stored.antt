-- What every word written keeps, a write keeps; and the last input, which only a reset and a hold change. Assumes nothing.
use mathlib.Core.Path.{◌≡◌, refl, ap, ◌∙◌}
use mathlib.Core.Bool.{Bool, true, false, cond}
use Prim.Native.Nat.{ℕ, zero, suc}
use Rattle.steps.specs.Iterate.{iterate}
use Rattle.qsm.specs.model.Own.{put_own}
use Rattle.qsm.specs.model.Word.{put}
use Rattle.qsm.specs.model.Lanes.{halves, upper_lane, lower_lane, lined}
use Rattle.qsm.specs.model.Access.{store, stored}
use Rattle.qsm.specs.model.Decision.{permits, decide_read, stored_by, decide_stored}
use Rattle.qsm.specs.model.Event.{done, passes, held, clocks, after_read, read_value, refused, resets, holds, reads, writes, does, step}
use Rattle.qsm.specs.model.State.{reset_module}
use Rattle.qsm.specs.claims.PinClauses.{LastInput}
use Rattle.qsm.specs.declared.state.Module.{Module}
use Rattle.qsm.specs.declared.access.Store.{Store}
use Rattle.qsm.specs.declared.map.Place.{Place}
use Rattle.qsm.specs.declared.map.Place.TheVariants.{Own, Serial, Queue, Hole}
use Rattle.qsm.specs.declared.map.OwnWord.{OwnWord}
use Rattle.qsm.specs.declared.map.OwnWord.TheVariants.{Qsmcr, QilrQivr, Portqs, PqsparDdrqs}
use Rattle.qsm.specs.declared.event.Access.TheVariants.{Read, Write}
use Rattle.qsm.specs.declared.event.Event.TheVariants.{Reset, Hold}
use Rattle.qsm.specs.declared.event.Event.TheVariants as event
use Rattle.qsm.proofs.Clocks.{apart}
use Rattle.qsm.proofs.Limit.{hold_if}

-- The module that a decided access leaves.
pub state_if : (P : Module → Type 0) (p : Bool) (m n : Module) (x y z : ℕ) → (p ≡ true → P n) → (p ≡ false → P m) →
    P (cond p (done n x y) (done m z 0)).state
state_if P true m n x y z f g = f refl
state_if P false m n x y z f g = g refl

module _ (P : Module → Type 0) (keeps : (m : Module) (p : Place) (v : ℕ) (upper lower : Bool) → P m → P (put m p v upper lower)) where
  stores : (n : ℕ) (upper lower : Bool) (s : Store) → P s.state → P (iterate n (store upper lower) s).state
  unfolding iterate store
  stores zero upper lower s h = h
  stores (suc n) upper lower s h = keeps _ _ _ upper lower (stores n upper lower s h)

  pub write_keeps : (m : Module) (width offset value : ℕ) → P m → P (stored_by m width offset value).state
  unfolding stored_by stored
  write_keeps m width offset value h =
      stores (halves width) (upper_lane width offset) (lower_lane width offset)
      (record { state = m; at = offset; words = lined width value; unmodelled = false; guarded = false }) h

-- The module's own words leave both halves, the last input and the count of clocks.
pub own_keeps : (m : Module) (w : OwnWord) (v : ℕ) (upper lower : Bool) →
    ((put_own m w v upper lower).sci ≡ m.sci) × ((put_own m w v upper lower).qspi ≡ m.qspi)
    × ((put_own m w v upper lower).inputs ≡ m.inputs) × ((put_own m w v upper lower).clock ≡ m.clock)
unfolding put_own
own_keeps m Qsmcr v upper lower = (refl, refl, refl, refl)
own_keeps m QilrQivr v upper lower = (refl, refl, refl, refl)
own_keeps m Portqs v upper lower = (refl, refl, refl, refl)
own_keeps m PqsparDdrqs v upper lower = (refl, refl, refl, refl)

put_inputs : (m : Module) (p : Place) (v : ℕ) (upper lower : Bool) → (put m p v upper lower).inputs ≡ m.inputs
unfolding put
put_inputs m (Own w) v upper lower = (own_keeps m w v upper lower).2
put_inputs m (Serial w) v upper lower = refl
put_inputs m (Queue w) v upper lower = refl
put_inputs m Hole v upper lower = refl

pub last_input_holds : LastInput
unfolding step does resets reset_module holds clocks reads writes refused after_read
last_input_holds m Reset = refl
last_input_holds m (Hold pins rxd n) =
    hold_if (λ d. d.state.inputs ≡ cond (passes m n) m.inputs pins) m pins rxd n (λ h. rw h)
    (λ h. rw h (ap (λ (k : Module). k.inputs) (apart n rxd (held m pins))))
last_input_holds m (event.Access (Read s w o)) =
    state_if (λ k. k.inputs ≡ m.inputs) (permits (decide_read m s w o)) m (after_read m w o) 0 (read_value m w o) _ (λ h. refl)
    (λ h. refl)
last_input_holds m (event.Access (Write s w o v)) =
    state_if (λ k. k.inputs ≡ m.inputs) (permits (decide_stored m (stored_by m w o v) s w o v)) m (stored_by m w o v).state 0 0 _
    (λ h.
    write_keeps (λ k. k.inputs ≡ m.inputs) (λ k p v upper lower e. put_inputs k p v upper lower ∙ e) m w o v refl)
    (λ h. refl)
