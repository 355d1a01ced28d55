-- The sender's events while it sends a frame, and the levels that its wire carries, clock by clock.
use mathlib.Core.Path.{◌≡◌, ap, sym, subst, ◌∙◌}
use mathlib.Core.Bool.{Bool, true, false, not, ◌||◌, or-true}
use mathlib.Core.List.{List, [], ◌∷◌, ◌++◌}
use Prim.Native.Nat.{ℕ, zero, suc, ◌+◌, ◌*◌, ◌≤◌, ◌<◌}
use native.Mathlib.Omega.{arith}
use borrow.Author.Tests.{ne_eqb}
use lib.Dec.{eqb}
use lib.ListN.{length, get_or}
use Rattle.steps.specs.Bits.{bit}
use Rattle.sci.specs.model.Control.{TE, frame_samples}
use Rattle.sci.specs.model.Serial.{txd_driven}
use Rattle.sci.specs.claims.Levels.{low_bits, frame_levels}
use Rattle.sci.specs.claims.History as half
use Rattle.sci.specs.claims.Wire.{Access, accessed}
use Rattle.sci.specs.declared.serial.Sci.{Sci}
use Rattle.sci.proofs.History.{clocks}
use Rattle.sci.proofs.Sending.{Sending, shows}
use Rattle.sci.proofs.Pace.{earlier, fewer, SenderOn, sender_clock, sender_touched}
use Rattle.qsm.specs.model.Pins.{outputs, mask, levels}
use Rattle.qsm.specs.model.Event.{held, clock_module}
use Rattle.qsm.specs.declared.state.Module.{Module}
use Rattle.qsm.specs.declared.pins.Outputs.{Outputs}
use Rattle.qsm.specs.declared.event.Event.{Event}
use Rattle.qsm.specs.declared.event.Event.TheVariants.{Reset, Hold}
use Rattle.qsm.specs.declared.event.Event.TheVariants as event
use Rattle.claims_histories.specs.History.{after, played_clocks}
use Rattle.claims_histories.specs.Sentence.{clock_outputs, driven, Carries, SenderStays}
use Rattle.claims_histories.proofs.Follows.{follows}
use Rattle.claims_histories.proofs.Given.{accessed_all, makes, access_half}
use Rattle.claims_histories.proofs.Pin.{pin_shows}

-- The levels of a frame of n bits of w, from the clock t after its start on, at P clocks a sample.
abbrev pub Shows : ℕ → ℕ → ℕ → ℕ → List Bool → Type 0
Shows n w P t [] = Unit {0}
Shows n w P t (x ∷ xs) =
    ((k p : ℕ) → p < P → k * P + p ≡ t → x ≡ get_or (frame_levels (low_bits n w)) k true) × Shows n w P (suc t) xs

-- A frame that runs drives TXD.
pub left_runs : (n w k : ℕ) (s : Sci) → Sending n w k s.transmitter → k < frame_samples n → txd_driven s ≡ true
left_runs n w k s h l =
    let e : eqb s.transmitter.left 0 ≡ false = ne_eqb s.transmitter.left 0 (λ z. omega (arith, h.left)) in
    ap (λ (b : Bool). TE s.sccr1 || not b) e ∙ or-true (TE s.sccr1)

module _ (n w P T : ℕ) (room : T < frame_samples n * P) where
  -- Whatever is before the clock t.
  level_at_holds : (t : ℕ) (m : Module) → SenderOn n w P t m.sci → t < T → (x : Bool) →
      (bit 7 (mask (outputs m)) ≡ true → x ≡ bit 7 (levels (outputs m))) → (k p : ℕ) → p < P → k * P + p ≡ t →
      x ≡ get_or (frame_levels (low_bits n w)) k true
  level_at_holds t m h l x f k p q e =
      let few : h.k < frame_samples n = fewer P h.k (frame_samples n) (omega (arith, h.time)) in
      let up : k ≤ h.k = earlier P k p h.k h.p (omega (arith, h.time)) h.small in
      let down : h.k ≤ k = earlier P h.k h.p k p (omega (arith, h.time)) q in
      let z : h.k ≡ k = omega (arith, up, down) in
      let d = pin_shows m (left_runs n w h.k m.sci h.at.sending few) in
      f d.0 ∙ d.1 ∙ shows n w h.k m.sci.transmitter h.at.sending few
      ∙ ap (λ (j : ℕ). get_or (frame_levels (low_bits n w)) j true) z

  carried_hold : (j : ℕ) (y : Bool) (m : Module) (rest : List Outputs) (xs : List Bool) (t : ℕ) → SenderOn n w P t m.sci →
      t + length xs ≡ T → Carries (clock_outputs j y m ++ rest) xs →
      ((zs : List Bool) (u : ℕ) → SenderOn n w P u (half.run (clocks j y) m.sci) → u + length zs ≡ T → Carries rest zs → Shows n w P u zs) →
      Shows n w P t xs
  unfolding half.run half.step clock_module
  carried_hold zero y m rest xs t h e c f = f xs t h e c
  carried_hold (suc j) y m rest [] t h e c f = absurd c
  carried_hold (suc j) y m rest (x ∷ xs) t h e c f = (
    level_at_holds t m h (omega arith) x c.0,
    carried_hold j y (clock_module y m) rest xs (suc t) (sender_clock n w P t m.sci y h (omega arith)) (omega arith) c.1 f,
  )

  pub touched : (ks : List Access) (t : ℕ) (s : Sci) → SenderOn n w P t s → SenderOn n w P t (accessed_all ks s)
  touched [] t s h = h
  touched (a ∷ ks) t s h = touched ks t (accessed a s) (sender_touched n w P t s a h)

  pub carried : (es : List Event) (m : Module) (xs : List Bool) (t : ℕ) → SenderOn n w P t m.sci → SenderStays es m →
      t + length xs ≡ T → Carries (driven es m) xs → Shows n w P t xs
  unfolding driven
  carried [] m [] t h u e c = tt
  carried [] m (x ∷ xs) t h u e c = absurd c
  carried (Reset ∷ es) m xs t h u e c = absurd u.0
  carried (Hold pins y j ∷ es) m xs t h u e c =
      let z : Module = after (Hold pins y j) m in
      carried_hold (played_clocks m j) y (held m pins) (driven es z) xs t h e c
      (λ zs v k e' c'. carried es z zs v (subst (SenderOn n w P v) (sym (follows (Hold pins y j) m)) k) u.1 e' c')
  carried (event.Access a ∷ es) m xs t h u e c =
      let z : Module = after (event.Access a) m in
      carried es z xs t (subst (SenderOn n w P t) (access_half a m u.0) (touched (makes a m) t m.sci h)) u.1 e c
