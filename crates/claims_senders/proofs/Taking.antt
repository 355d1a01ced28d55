-- The frames that a serial half takes are those that end in the samples of RXD. Assumes nothing.
use mathlib.Core.Path.{◌≡◌, refl, ap, ap₂, subst, ◌∙◌}
use mathlib.Core.Bool.{Bool, true, false, cond, ◌&&◌, true≢false}
use mathlib.Core.List.{List, [], ◌∷◌, ◌++◌}
use Prim.Native.Nat.{ℕ, suc, ◌+◌, ◌*◌, ◌<◌, min}
use native.Mathlib.Omega.{arith}
use lib.Dec.{leb}
use borrow.Author.Tests.{leb-false}
use Rattle.sci.specs.model.Control.{SCBR, RE, M, bits_of}
use Rattle.sci.specs.model.Framer.{searching, ends, frame_of}
use Rattle.sci.specs.model.Receiver.{receiver_after, received}
use Rattle.sci.specs.model.Serial.{clocked}
use Rattle.sci.specs.claims.History.{Step, reset, clock, reads, writesSccr0, writesSccr1, writesScdr, step}
use Rattle.sci.specs.declared.framer.Framer.{Framer}
use Rattle.sci.specs.declared.framer.Frame.{Frame}
use Rattle.sci.specs.declared.serial.Sci.{Sci}
use Rattle.sci.proofs.Reachable.{turned}
use Rattle.claims_senders.specs.Fair.{SentFrame, line, FairFrames}
use Rattle.claims_senders.specs.Heard.{Ended, ended_in, frames, as_sent}
use Rattle.claims_senders.specs.Clocks.{sampled_at}
use Rattle.claims_senders.proofs.Receiving.{rxd_in, taken_at, taken_in, On, StaysAwake, Ready}
use Rattle.claims_senders.proofs.Sampled.{clocks_heard}
use Rattle.claims_senders.proofs.Steady.{Same, same_scdr, still_on, due_now, turns, takes_it, sample_on, count_on, same_write0, same_write1, same_read}

-- What is heard of levels from a state on.
abbrev pub heard_from : Sci → ℕ → List Bool → List Frame
heard_from s k xs =
    frames
    (ended_in (bits_of (M s.sccr1)) k s.receiver.last1 s.receiver.last2 s.receiver.last3 s.receiver.framer
    (sampled_at (2 * SCBR s.sccr0) s.prescaler xs))

same_heard : (s r : Sci) (k : ℕ) (xs : List Bool) → Same s r → heard_from r k xs ≡ heard_from s k xs
same_heard s r k xs h =
    go r.receiver.framer r.receiver.last1 r.receiver.last2 r.receiver.last3 r.sccr0 r.prescaler (bits_of (M r.sccr1))
    h.framer h.last1 h.last2 h.last3 h.sccr0 h.prescaler h.bits
  where
    go : (f : Framer) (a b c : Bool) (v p n : ℕ) → f ≡ s.receiver.framer → a ≡ s.receiver.last1 → b ≡ s.receiver.last2 →
        c ≡ s.receiver.last3 → v ≡ s.sccr0 → p ≡ s.prescaler → n ≡ bits_of (M s.sccr1) →
        frames (ended_in n k a b c f (sampled_at (2 * SCBR v) p xs)) ≡ heard_from s k xs
    go f a b c v p n e₁ e₂ e₃ e₄ e₅ e₆ e₇ = rw (e₁, e₂, e₃, e₄, e₅, e₆, e₇)

abbrev pub Hears : List Step → Type 0
Hears es = (t : Sci) (k : ℕ) → On t → StaysAwake es t → taken_in es t ≡ heard_from t k (rxd_in es)

-- A step that brings no sample.
quiet : (es : List Step) (s r : Sci) (k : ℕ) → Hears es → On s → Same s r → RE r.sccr1 ≡ true → r.receiver.asleep ≡ false → StaysAwake es r →
    taken_in es r ≡ heard_from s k (rxd_in es)
quiet es s r k ih o h on awake stays = ih r k (still_on s r o h on awake) stays ∙ same_heard s r k (rxd_in es) h

module _ (x : Bool) (es : List Step) (s : Sci) (k : ℕ) (ih : Hears es) (o : On s) where
  -- A sample.
  sample_heard : leb (2 * SCBR s.sccr0) (s.prescaler + 1) ≡ true → taken_in es (turned true true true s x) ≡ heard_from (turned true true true s x) (suc k) (rxd_in es) →
      cond (true && ends s.receiver.framer) (frame_of s.receiver.framer x ∷ []) [] ++ taken_in es (turned true true true s x)
      ≡ heard_from s k (x ∷ rxd_in es)
  unfolding sampled_at ended_in frames received receiver_after
  sample_heard e h = rw e (go (ends s.receiver.framer) _ h)
    where
      go : (b : Bool) (l : List Ended) → taken_in es (turned true true true s x) ≡ frames l →
          cond b (frame_of s.receiver.framer x ∷ []) [] ++ taken_in es (turned true true true s x)
          ≡ frames (cond b (record { sample = suc k; frame = frame_of s.receiver.framer x } ∷ l) l)
      go true l h = ap (λ (l : List Frame). frame_of s.receiver.framer x ∷ l) h
      go false l h = h

  -- A clock between samples.
  count_heard : leb (2 * SCBR s.sccr0) (s.prescaler + 1) ≡ false →
      taken_in es (turned true false true s x) ≡ heard_from (turned true false true s x) k (rxd_in es) →
      taken_in es (turned true false true s x) ≡ heard_from s k (x ∷ rxd_in es)
  unfolding sampled_at
  count_heard e h =
      let l : s.prescaler + 1 < 2 * SCBR s.sccr0 = leb-false (2 * SCBR s.sccr0) (s.prescaler + 1) e in
      let z : min 65535 (s.prescaler + 1) ≡ s.prescaler + 1 = omega arith in
      rw e (h ∙ ap (λ (v : ℕ). frames (ended_in (bits_of (M s.sccr1)) k s.receiver.last1 s.receiver.last2 s.receiver.last3 s.receiver.framer (sampled_at (2 * SCBR s.sccr0) v (rxd_in es)))) z)

  clock_heard : (d : Bool) → leb (2 * SCBR s.sccr0) (s.prescaler + 1) ≡ d → RE (clocked s x).sccr1 ≡ true → (clocked s x).receiver.asleep ≡ false →
      StaysAwake es (clocked s x) → taken_at (clock x) s ++ taken_in es (clocked s x) ≡ heard_from s k (x ∷ rxd_in es)
  clock_heard true e on awake stays =
      let t : clocked s x ≡ turned true true true s x = turns x s o true (due_now x s o true e) in
      ap₂ (λ (l : List Frame) (r : Sci). l ++ taken_in es r) (takes_it x s o true (due_now x s o true e)) t
      ∙ sample_heard e
      (ih (turned true true true s x) (suc k)
      (sample_on x s o (subst (λ (r : Sci). RE r.sccr1 ≡ true) t on) (subst (λ (r : Sci). r.receiver.asleep ≡ false) t awake))
      (subst (StaysAwake es) t stays))
  clock_heard false e on awake stays =
      let t : clocked s x ≡ turned true false true s x = turns x s o false (due_now x s o false e) in
      ap₂ (λ (l : List Frame) (r : Sci). l ++ taken_in es r) (takes_it x s o false (due_now x s o false e)) t
      ∙ count_heard e (ih (turned true false true s x) k (count_on x s o e) (subst (StaysAwake es) t stays))

one_step : (e : Step) (es : List Step) → Hears es → Hears (e ∷ es)
unfolding taken_in rxd_in StaysAwake step
one_step reset es ih s k o h = absurd (true≢false h.0)
one_step (clock x) es ih s k o h =
    clock_heard x es s k ih o (leb (2 * SCBR s.sccr0) (s.prescaler + 1)) refl h.1 h.2 h.3
one_step (reads scsr scdr) es ih s k o h = quiet es s _ k ih o (same_read s scsr scdr) h.1 h.2 h.3
one_step (writesSccr0 v upper lower) es ih s k o h = quiet es s _ k ih o (same_write0 s v upper lower o) h.1 h.2 h.3
one_step (writesSccr1 v upper lower) es ih s k o h = quiet es s _ k ih o (same_write1 s v upper lower o h.1) h.1 h.2 h.3
one_step (writesScdr v upper lower) es ih s k o h = quiet es s _ k ih o (same_scdr lower s v upper) h.1 h.2 h.3

pub hears : (es : List Step) → Hears es
unfolding taken_in rxd_in sampled_at ended_in frames
hears [] s k o h = refl
hears (e ∷ es) s k o h = one_step e es (hears es) s k o h

pub taken : (s : Sci) (es : List Step) (fs : List SentFrame) → Ready s → StaysAwake es s → rxd_in es ≡ line fs →
    FairFrames (2 * SCBR s.sccr0) (bits_of (M s.sccr1)) fs → taken_in es s ≡ as_sent fs
taken s es fs r h e f =
    hears es s 0 r.on h
    ∙ go s.receiver.framer s.receiver.last1 s.receiver.last2 s.receiver.last3 (rxd_in es) r.searches r.one1 r.one2 r.one3 e
    ∙ clocks_heard.words (2 * SCBR s.sccr0) s.prescaler (bits_of (M s.sccr1)) fs r.on.phase f
  where
    go : (g : Framer) (a b c : Bool) (xs : List Bool) → g ≡ searching → a ≡ true → b ≡ true → c ≡ true → xs ≡ line fs →
        frames (ended_in (bits_of (M s.sccr1)) 0 a b c g (sampled_at (2 * SCBR s.sccr0) s.prescaler xs))
        ≡ frames (ended_in (bits_of (M s.sccr1)) 0 true true true searching (sampled_at (2 * SCBR s.sccr0) s.prescaler (line fs)))
    go g a b c xs e₁ e₂ e₃ e₄ e₅ = rw (e₁, e₂, e₃, e₄, e₅)
