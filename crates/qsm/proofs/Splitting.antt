-- A hold cut into holds: its levels are taken once or again with the same outcome, and its clocks add up. Assumes nothing.
use mathlib.Core.Path.{◌≡◌, refl, sym, ap, ◌∙◌}
use mathlib.Core.Bool.{Bool, true, false, ◌||◌}
use Prim.Native.Nat.{ℕ, zero, suc, ◌+◌, ◌≤◌}
use native.Mathlib.Omega.{arith}
use borrow.Author.Tests.{lt-ltb}
use Rattle.steps.specs.Iterate.{iterate}
use Rattle.steps.proofs.Iterate.{iterate_add}
use Rattle.qsm.specs.model.Event.{done, answered, clock_limit, passes, clock_module, clocks, held, does, step}
use Rattle.qsm.specs.claims.Holds.{Splits, RefusedInParts, OneByOne, NoClocks, HeldInParts}
use Rattle.qsm.specs.declared.state.Module.{Module}
use Rattle.qsm.specs.declared.event.Event.TheVariants.{Hold}
use Rattle.qsm.specs.declared.event.Done.{Done}
use Rattle.qsm.proofs.Clocks.{apart}
use Rattle.qsm.proofs.Limit.{hold_if, hold_played, has_room, no_room, is_room}

-- A clock leaves the levels, so the same levels again change nothing.
levels_stay : (n : ℕ) (rxd : Bool) (m : Module) → (iterate n (clock_module rxd) m).inputs ≡ m.inputs
levels_stay n rxd m = ap (λ (k : Module). k.inputs) (apart n rxd m)

held_same : (m : Module) (pins : ℕ) → m.inputs ≡ pins → held m pins ≡ m
held_same m pins e = ap (held m) (sym e)

held_on : (n : ℕ) (rxd : Bool) (m : Module) (pins : ℕ) →
    held (iterate n (clock_module rxd) (held m pins)) pins ≡ iterate n (clock_module rxd) (held m pins)
held_on n rxd m pins = held_same (iterate n (clock_module rxd) (held m pins)) pins (levels_stay n rxd (held m pins))

-- What a hold that is not refused leaves in the count.
pub hold_counts : (m : Module) (pins : ℕ) (rxd : Bool) (n : ℕ) → (clocks (held m pins) rxd n).clock ≡ m.clock + n
unfolding clocks
hold_counts m pins rxd n = ap (λ (k : Module). k.clock) (apart n rxd (held m pins))

module _ (m : Module) (pins : ℕ) (rxd : Bool) (a : ℕ) (h : passes m a ≡ false) where
  pub played_state : (step m (Hold pins rxd a)).state ≡ clocks (held m pins) rxd a
  unfolding step
  played_state = ap (λ (d : Done). d.state) (hold_played m pins rxd a h)

  played_clock : (step m (Hold pins rxd a)).state.clock ≡ m.clock + a
  played_clock = ap (λ (k : Module). k.clock) played_state ∙ hold_counts m pins rxd a

pub splits : Splits
unfolding step clocks
splits m pins rxd a b h =
    let room : m.clock + (a + b) ≤ clock_limit = has_room m (a + b) h in
    let first : passes m a ≡ false = is_room m a (omega (arith, room)) in
    let left : Module = iterate a (clock_module rxd) (held m pins) in
    let count : left.clock ≡ m.clock + a = hold_counts m pins rxd a in
    let second : passes left b ≡ false = is_room left b (omega (arith, room, count)) in
    let sum : b + a ≡ a + b = omega arith in
    ap (λ (k : Module). step k (Hold pins rxd b)) (played_state m pins rxd a first)
    ∙ ap answered (hold_played left pins rxd b second
    ∙ ap (λ (s : Module). done s 0 0)
    (ap (iterate b (clock_module rxd)) (held_on a rxd m pins)
    ∙ sym (iterate_add b a (clock_module rxd) (held m pins))
    ∙ ap (λ (k : ℕ). iterate k (clock_module rxd) (held m pins)) sum)
    ∙ sym (hold_played m pins rxd (a + b) h))

pub refused_in_parts : RefusedInParts
refused_in_parts m pins rxd a b = go (passes m a) refl
  where
    go : (t : Bool) → passes m a ≡ t → passes m (a + b) ≡ t || passes (step m (Hold pins rxd a)).state b
    go true h = lt-ltb clock_limit (m.clock + (a + b)) (omega (arith, no_room m a h))
    go false h =
        let sum : m.clock + (a + b) ≡ (step m (Hold pins rxd a)).state.clock + b = omega (arith, played_clock m pins rxd a h) in
        rw sum

pub one_by_one : OneByOne
unfolding iterate
one_by_one m pins rxd zero h = refl
one_by_one m pins rxd (suc n) h =
    let sum : suc n + 1 ≡ suc (suc n) = omega arith in
    let all : passes m (suc n + 1) ≡ false = rw sum h in
    let less : passes m (suc n) ≡ false = is_room m (suc n) (omega (arith, has_room m (suc (suc n)) h)) in
    ap (λ (k : ℕ). (step m (Hold pins rxd k)).state) (sym sum)
    ∙ sym (ap (λ s. s.state) (splits m pins rxd (suc n) 1 all))
    ∙ ap (λ (s : Module). (step s (Hold pins rxd 1)).state) (one_by_one m pins rxd n less)

pub no_clocks : NoClocks
unfolding step clocks iterate
no_clocks = (
  (λ m rxd. hold_if (λ d. d.state ≡ m) m m.inputs rxd 0 (λ _. refl) (λ _. refl)),
  (λ m pins later rxd now n h.
      hold_if (λ d. answered (does d.state (Hold later now n)) ≡ answered (does m (Hold later now n))) m pins rxd 0 (λ _. refl)
      (λ _. ap answered (hold_played (held m pins) later now n h ∙ sym (hold_played m later now n h)))),
)

pub held_in_parts : HeldInParts
held_in_parts = record { splits = splits; refused_in_parts = refused_in_parts; one_by_one = one_by_one; no_clocks = no_clocks }
