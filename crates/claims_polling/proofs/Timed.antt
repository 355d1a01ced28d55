-- The clocks until a frame can end, of the serial half: with nothing waiting no frame is lost in fewer than lie between two ends. Assumes nothing.
use mathlib.Core.Path.{◌≡◌, refl, sym, ◌∙◌}
use mathlib.Core.Bool.{Bool, true, false, not, ◌&&◌, true≢false}
use Prim.Native.Nat.{ℕ, suc, ◌+◌, ◌-◌, ◌*◌, ◌≤◌, ◌<◌}
use native.Mathlib.Omega.{arith}
use native.Mathlib.Nat.{mul-le-mul_right}
use lib.Dec.{eqb, leb}
use borrow.Author.Tests.{leb-true}
use Rattle.sci.specs.model.Control.{SCBR, RE, M, bits_of}
use Rattle.sci.specs.model.Framer.{searching, ends, adjusts, framed}
use Rattle.sci.specs.model.Receiver.{three, takes, full, outcome, received, receiver_after}
use Rattle.sci.specs.model.Transmitter.{sent}
use Rattle.sci.specs.claims.Sound.{Fits}
use Rattle.sci.specs.model.Serial.{due}
use Rattle.sci.specs.declared.status.Status.{Status}
use Rattle.sci.specs.declared.receiver.Receiver.{Receiver}
use Rattle.sci.specs.declared.receiver.Outcome.{Outcome}
use Rattle.sci.specs.declared.serial.Sci.{Sci}
use Rattle.sci.proofs.Membership.{and_left, and_right}
use Rattle.sci.proofs.Same.{same_sent}
use Rattle.sci.proofs.Reachable.{turned}
use Rattle.claims_polling.specs.Spacing.{apart}
use Rattle.claims_polling.proofs.Nearing.{soonest, at_end_holds, end_searches}
use Rattle.claims_polling.proofs.Spaced.{nears_bits}
use Rattle.claims_polling.proofs.Full.{full_same, sample_full}

-- The clocks of a sample, and the data bits of a frame.
abbrev pub rate : Sci → ℕ
rate s = 2 * SCBR s.sccr0

abbrev pub width : Sci → ℕ
width s = bits_of (M s.sccr1)

-- No frame ends before so many clocks have passed.
abbrev clocks_to : Bool → Sci → ℕ
clocks_to moves s = soonest moves (width s) s.receiver.framer * rate s - s.prescaler

-- Where something waits, the next end is more than `room` clocks away.
abbrev pub Roomy : Bool → ℕ → Sci → Type 0
Roomy moves room s = full s.status ≡ true → room < clocks_to moves s

due_prescaler : (s : Sci) → due s ≡ true → rate s ≤ s.prescaler + 1
due_prescaler s d = leb-true (rate s) (s.prescaler + 1) (and_right (not (eqb (rate s) 0)) (leb (rate s) (s.prescaler + 1)) d)

-- A frame that ends does so at once.
end_now : (moves : Bool) (s : Sci) → due s ≡ true → ends s.receiver.framer ≡ true → clocks_to moves s ≤ 1
end_now moves s d e =
    let one : soonest moves (width s) s.receiver.framer ≡ 1 = at_end_holds moves (width s) s.receiver.framer e in
    rw one (omega (arith, due_prescaler s d))

later : (m k T p : ℕ) → m ≤ suc k → T ≤ p + 1 → m * T - p ≤ suc (k * T)
later m k T p h e = omega (arith, mul-le-mul_right T h)

module _ (moves : Bool) (s : Sci) (x : Bool) where
  abbrev r : Receiver
  r = s.receiver

  abbrev t : Status
  t = (sent s.transmitter s.status s.sccr1).status

  abbrev o : Outcome
  o = outcome r t s.sccr1 x

  sent_full : full t ≡ full s.status
  sent_full = sym (full_same s.status t (same_sent s.transmitter s.status s.sccr1))

  taken_ends : o.taken ≡ true → ends r.framer ≡ true
  unfolding outcome
  taken_ends e = and_left (ends r.framer) (takes r s.sccr1 r.framer.shift) e

  lost_full : o.lost ≡ true → full s.status ≡ true
  unfolding outcome
  lost_full e = sym sent_full ∙ and_right o.taken (full t) e

  lost_taken : o.lost ≡ true → o.taken ≡ true
  unfolding outcome
  lost_taken e = and_left o.taken (full t) e

  -- With clocks to go nothing is lost.
  pub kept : (room : ℕ) → due s ≡ true → Roomy moves (suc room) s → o.lost ≡ false
  kept room d h = go o.lost refl
    where
      go : (b : Bool) → o.lost ≡ b → b ≡ false
      go true e = absurd (omega (arith, h (lost_full e), end_now moves s d (taken_ends (lost_taken e))))
      go false e = refl

  -- Where the sample leaves something waiting, the next end is far.
  abbrev left : Sci
  left = turned true true true s x

  after_taken_holds : (room : ℕ) → suc room ≤ apart moves (width s) * rate s → ends r.framer ≡ true → room < clocks_to moves left
  unfolding received receiver_after
  after_taken_holds room b e =
      let z : framed (width s) r.framer (three r) x ≡ searching = end_searches (width s) r.framer (three r) x e in
      rw z (omega arith)

  after_none : (room : ℕ) → due s ≡ true → Fits (width s) r.framer → (moves ≡ false → adjusts (width s) r.framer (three r) x ≡ false) →
      suc room < clocks_to moves s → room < clocks_to moves left
  unfolding received receiver_after
  after_none room d i u h =
      omega (
        arith,
        later (soonest moves (width s) r.framer) (soonest moves (width s) (framed (width s) r.framer (three r) x)) (rate s) s.prescaler
            (nears_bits moves s.sccr1 r.framer (three r) x i u) (due_prescaler s d),
      )

  pub roomy_sample : (room : ℕ) → due s ≡ true → Fits (width s) r.framer → suc room ≤ apart moves (width s) * rate s →
      (moves ≡ false → adjusts (width s) r.framer (three r) x ≡ false) → Roomy moves (suc room) s → Roomy moves room left
  roomy_sample room d i b u h = go o.taken refl
    where
      go : (taken : Bool) → o.taken ≡ taken → Roomy moves room left
      go true e = λ _. after_taken_holds room b (taken_ends e)
      go false e = λ f. after_none room d i u (h (sym sent_full ∙ sym (sample_full r t s.sccr1 x e) ∙ f))

  -- A clock that is none of the receiver's samples.
  pub roomy_clock : (a d on : Bool) (room : ℕ) → due s ≡ d → RE s.sccr1 ≡ on → a && d && on ≡ false → Roomy moves (suc room) s →
      Roomy moves room (turned a d on s x)
  roomy_clock true true true room e f z h = absurd (true≢false z)
  roomy_clock true true false room e f z h = λ g. omega (arith, h (sym sent_full ∙ g))
  roomy_clock true false on room e f z h = λ g. omega (arith, h g)
  roomy_clock false d on room e f z h = λ g. omega (arith, h g)
