-- The laws of specs/Count: a hold adds its clocks unless it is refused, and an access leaves the count. Assumes nothing.
use mathlib.Core.Path.{◌≡◌, refl, ◌∙◌}
use mathlib.Core.Bool.{Bool, true, false, cond}
use Prim.Native.Nat.{ℕ, ◌+◌, ◌≤◌}
use native.Mathlib.Omega.{arith}
use lib.Dec.{eqb}
use Rattle.qsm.specs.model.Word.{put}
use Rattle.qsm.specs.model.Decision.{refusal_of, permits, decide_read, stored_by, decide_stored}
use Rattle.qsm.specs.model.Event.{done, answer_of, clock_limit, after_read, read_value, refused, resets, reads, writes, does, step}
use Rattle.qsm.specs.model.State.{reset_module}
use Rattle.qsm.specs.claims.Count.{count_after, Counting}
use Rattle.qsm.specs.declared.state.Module.{Module}
use Rattle.qsm.specs.declared.map.Place.{Place}
use Rattle.qsm.specs.declared.map.Place.TheVariants.{Own, Serial, Queue, Hole}
use Rattle.qsm.specs.declared.event.Access.{Access}
use Rattle.qsm.specs.declared.event.Access.TheVariants.{Read, Write}
use Rattle.qsm.specs.declared.event.Event.{Event}
use Rattle.qsm.specs.declared.event.Event.TheVariants.{Reset, Hold}
use Rattle.qsm.specs.declared.event.Event.TheVariants as event
use Rattle.qsm.proofs.Limit.{hold_if, has_room}
use Rattle.qsm.proofs.Splitting.{hold_counts}
use Rattle.qsm.proofs.Stored.{state_if, write_keeps, own_keeps}

put_clock : (m : Module) (p : Place) (v : ℕ) (upper lower : Bool) → (put m p v upper lower).clock ≡ m.clock
unfolding put
put_clock m (Own w) v upper lower = (own_keeps m w v upper lower).3
put_clock m (Serial w) v upper lower = refl
put_clock m (Queue w) v upper lower = refl
put_clock m Hole v upper lower = refl

reset_clears : (m : Module) → (does m Reset).state.clock ≡ 0
unfolding does resets reset_module
reset_clears m = refl

access_keeps : (m : Module) (a : Access) → (does m (event.Access a)).state.clock ≡ m.clock
unfolding does reads writes refused after_read
access_keeps m (Read s w o) =
    state_if (λ k. k.clock ≡ m.clock) (permits (decide_read m s w o)) m (after_read m w o) 0 (read_value m w o) _ (λ h. refl)
    (λ h. refl)
access_keeps m (Write s w o v) =
    state_if (λ k. k.clock ≡ m.clock) (permits (decide_stored m (stored_by m w o v) s w o v)) m (stored_by m w o v).state 0 0 _
    (λ h. write_keeps (λ k. k.clock ≡ m.clock) (λ k p v upper lower e. put_clock k p v upper lower ∙ e) m w o v refl)
    (λ h. refl)

counts : (m : Module) (e : Event) → (step m e).state.clock ≡ count_after m e
unfolding step answer_of
counts m Reset = reset_clears m
counts m (Hold pins rxd n) =
    hold_if (λ d. d.state.clock ≡ cond (eqb d.refusal 10) m.clock (m.clock + n)) m pins rxd n (λ _. refl)
    (λ _. hold_counts m pins rxd n)
counts m (event.Access a) = access_keeps m a

within : (m : Module) (e : Event) → m.clock ≤ clock_limit → (step m e).state.clock ≤ clock_limit
unfolding step
within m Reset h = omega (arith, counts m Reset)
within m (Hold pins rxd n) h =
    hold_if (λ d. d.state.clock ≤ clock_limit) m pins rxd n (λ _. h) (λ room. omega (arith, hold_counts m pins rxd n, has_room m n room))
within m (event.Access a) h = omega (arith, counts m (event.Access a))

pub counting : Counting
unfolding step answer_of
counting = record { counts = counts; shown = λ m e. refl; within = within }

-- An event that is refused 10 leaves the module as it was.
limited_if : (p : Bool) (m n : Module) (x y : ℕ) → (cond p (done n 0 x) (done m y 0)).refusal ≡ 10 → (cond p (done n 0 x) (done m y 0)).state ≡ m
limited_if true m n x y h = absurd (omega (arith, h))
limited_if false m n x y h = refl

pub limited_stays : (m : Module) (e : Event) → (step m e).answer.refusal ≡ 10 → (step m e).state ≡ m
unfolding step answer_of does resets reads writes refused
limited_stays m Reset h = absurd (omega (arith, h))
limited_stays m (Hold pins rxd n) h =
    hold_if (λ d. d.refusal ≡ 10 → d.state ≡ m) m pins rxd n (λ _ _. refl) (λ _ is. absurd (omega (arith, is))) h
limited_stays m (event.Access (Read s w o)) h =
    limited_if (permits (decide_read m s w o)) m (after_read m w o) (read_value m w o) (refusal_of (decide_read m s w o)) h
limited_stays m (event.Access (Write s w o v)) h =
    limited_if (permits (decide_stored m (stored_by m w o v) s w o v)) m (stored_by m w o v).state 0
    (refusal_of (decide_stored m (stored_by m w o v) s w o v)) h
