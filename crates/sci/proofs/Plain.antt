-- Samples that change little: there `received` and `sent` come to the short forms.
use Prim.Native.Nat.{ℕ, ◌+◌, ◌/◌, ◌%◌, ◌<◌}
use mathlib.Core.Bool.{Bool, true, false, not, cond, ◌&&◌, ◌||◌, and-true, and-false, false≢true}
use mathlib.Core.Path.{◌≡◌, refl, sym}
use native.Mathlib.Omega.{arith}
use lib.Dec.{eqb, leb}
use borrow.Author.Tests.{ne_eqb, eqb-false, leb-true, not-true}
use Rattle.steps.specs.Bits.{bit}
use Rattle.sci.specs.model.Control.{M, TIE, TCIE, RIE, ILIE, RE, bits_of}
use Rattle.sci.specs.model.Framer.{begins, abandons, ends, searched, at_rt, start_bit, data_bit, stop_bit, in_bit, next_rt, fixed, adjusts, framed}
use Rattle.sci.specs.model.Flags.{OR, IDLE, RAF}
use Rattle.sci.specs.model.Status.{raise_if, fall_if}
use Rattle.sci.specs.model.Receiver.{three, reaches, outcome, entered, status_after, receiver_after, received}
use Rattle.sci.specs.model.Account.{accounted}
use Rattle.sci.specs.model.Transmitter.{begins_preamble, begins_frame, ends as ended, sent}
use Rattle.sci.specs.model.Parts.{after_received, after_sent}
use Rattle.sci.specs.model.Serial.{heard, sampled, asks}
use Rattle.sci.specs.quick.Plain.{busy, rests, rested, plain, passed, listened, turns, shifted}
use Rattle.sci.specs.declared.status.Status.{Status}
use Rattle.sci.specs.declared.framer.Framer.{Framer}
use Rattle.sci.specs.declared.framer.Frame.{Frame}
use Rattle.sci.specs.declared.receiver.Outcome.{Outcome}
use Rattle.sci.specs.declared.receiver.Receiver.{Receiver}
use Rattle.sci.specs.declared.receiver.Received.{Received}
use Rattle.sci.specs.declared.transmitter.Transmitter.{Transmitter}
use Rattle.sci.specs.declared.transmitter.Sent.{Sent}
use Rattle.sci.specs.declared.serial.Sci.{Sci}

-- Tests that fail, one of several.
pub first : (a b : Bool) → (a && b) ≡ true → a ≡ true
first true b h = refl
first false b h = h

pub second : (a b : Bool) → (a && b) ≡ true → b ≡ true
second a true h = refl
second true false h = h
second false false h = h

none₁ : (a b c : Bool) → (a || b || c) ≡ false → a ≡ false
none₁ true b c h = h
none₁ false b c h = refl

none₂ : (a b c : Bool) → (a || b || c) ≡ false → b ≡ false
none₂ a false c h = refl
none₂ true true c h = h
none₂ false true c h = h

none₃ : (a b c : Bool) → (a || b || c) ≡ false → c ≡ false
none₃ a b false h = refl
none₃ true b true h = h
none₃ false true true h = h
none₃ false false true h = h

third : (a b c d : Bool) → c ≡ false → (a && b && c && d) ≡ false
third true true c d e = rw e
third true false c d e = refl
third false b c d e = refl

-- An RT at which nothing is done is none of those at which something is, the bits of `at`.
module _ (rt at : ℕ) (e : bit (rt % 16) at ≡ false) where
  not_next : (k : ℕ) → bit k at ≡ true → eqb (rt % 16 + 1) (k + 1) ≡ false
  not_next k t =
      ne_eqb (rt % 16 + 1) (k + 1)
      (λ h.
      let same : rt % 16 ≡ k = omega arith in
      let z : ◌≡◌ {A = ℕ} 0 1 = cc in
      omega arith)

  not_now : (k : ℕ) → k < 16 → bit k at ≡ true → eqb rt k ≡ false
  not_now k b t =
      ne_eqb rt k
      (λ h.
      let same : rt % 16 ≡ k = omega arith in
      let z : ◌≡◌ {A = ℕ} 0 1 = cc in
      omega arith)

  unvoted : bit 7 at ≡ true → bit 8 at ≡ true → bit 9 at ≡ true → (leb 8 (rt % 16 + 1) && leb (rt % 16 + 1) 10) ≡ false
  unvoted t₈ t₉ t₁₀ = go (leb 8 (rt % 16 + 1)) (leb (rt % 16 + 1) 10) refl refl
    where
      go : (a b : Bool) → leb 8 (rt % 16 + 1) ≡ a → leb (rt % 16 + 1) 10 ≡ b → (a && b) ≡ false
      go true true p q =
          let low : _ = leb-true 8 (rt % 16 + 1) p in
          let high : _ = leb-true (rt % 16 + 1) 10 q in
          let eight : _ = eqb-false (rt % 16 + 1) 8 (not_next 7 t₈) in
          let nine : _ = eqb-false (rt % 16 + 1) 9 (not_next 8 t₉) in
          let ten : _ = eqb-false (rt % 16 + 1) 10 (not_next 9 t₁₀) in
          absurd (omega arith)
      go true false p q = refl
      go false b p q = refl

in_frame : (n : ℕ) (f : Framer) (x starting stopping : Bool) → busy starting f.rt ≡ false →
    in_bit starting stopping n f (next_rt f) x ≡ at_rt f (next_rt f)
unfolding start_bit stop_bit data_bit
in_frame n f x true stopping e =
    let other : (k : ℕ) → bit k 33748 ≡ true → eqb (next_rt f) (k + 1) ≡ false = not_next f.rt 33748 e in
    rw (other 2 refl, other 4 refl, other 6 refl, other 15 refl, unvoted f.rt 33748 e refl refl refl)
in_frame n f x false true e =
    let other : (k : ℕ) → bit k 33664 ≡ true → eqb (next_rt f) (k + 1) ≡ false = not_next f.rt 33664 e in
    rw (other 7 refl, other 8 refl, other 9 refl)
in_frame n f x false false e =
    let other : (k : ℕ) → bit k 33664 ≡ true → eqb (next_rt f) (k + 1) ≡ false = not_next f.rt 33664 e in
    rw (other 7 refl, other 8 refl, other 9 refl, other 15 refl)

no_start : (framing ones x : Bool) → (not ones || x) ≡ true → (not framing && ones && not x) ≡ false
no_start true ones x h = refl
no_start false true true h = refl
no_start false true false h = sym h
no_start false false x h = refl

-- At no zero after three ones is there an adjustment.
no_fall : (n : ℕ) (f : Framer) (ones x : Bool) → (not ones || x) ≡ true → adjusts n f ones x ≡ false
no_fall n f ones true h = refl
no_fall n f true false h = absurd (false≢true h)
no_fall n f false false h = refl

not_busy : (framing b : Bool) → not (framing && b) ≡ true → framing ≡ true → b ≡ false
not_busy true b h e = not-true b h
not_busy false b h e = absurd (false≢true e)

moves : (n : ℕ) (f : Framer) (ones x : Bool) → rests f ones x ≡ true → framed n f ones x ≡ rested f
unfolding rests rested framed fixed
moves n f ones x h =
    let level : (not ones || x) ≡ true = first (not ones || x) _ h in
    rw (no_fall n f ones x level)
    (go f.framing level (not_busy f.framing (busy f.starting f.rt) (second (not ones || x) _ h)))
  where
    go : (b : Bool) → (not ones || x) ≡ true → (b ≡ true → busy f.starting f.rt ≡ false) →
        cond b (in_bit f.starting (eqb f.left 0) n f (next_rt f) x) (searched (begins f ones x) f n)
        ≡ cond b (at_rt f (next_rt f)) f
    go true level idle = in_frame n f x f.starting (eqb f.left 0) (idle refl)
    go false level idle = rw (no_start f.framing ones x level)

-- What a frame does not do where it rests.
record Resting (f : Framer) (ones x : Bool) : Type 0 where
  begun : begins f ones x ≡ false
  abandoned : abandons f x ≡ false
  ended : ends f ≡ false

resting : (f : Framer) (ones x : Bool) → rests f ones x ≡ true → Resting f ones x
unfolding rests
resting f ones x h =
    go f.framing f.starting refl refl
    (not_busy f.framing (busy f.starting f.rt) (second (not ones || x) _ h))
  where
    go : (framing starting : Bool) → f.framing ≡ framing → f.starting ≡ starting →
        (framing ≡ true → busy starting f.rt ≡ false) → Resting f ones x
    go true true e s idle =
        record {
          begun = no_start f.framing ones x (first (not ones || x) _ h);
          abandoned =
              third f.framing f.starting (eqb f.rt 6) _ (not_now f.rt 33748 (idle refl) 6 (omega arith) refl);
          ended = rw (e, s);
        }
    go true false e s idle =
        record {
          begun = no_start f.framing ones x (first (not ones || x) _ h);
          abandoned = rw (e, s);
          ended = rw (not_now f.rt 33664 (idle refl) 9 (omega arith) refl, and-false);
        }
    go false starting e s idle =
        record { begun = no_start f.framing ones x (first (not ones || x) _ h); abandoned = rw e; ended = rw e }

pub passes : (r : Receiver) (s : Status) (sccr1 : ℕ) (x : Bool) → plain r (bits_of (M sccr1)) x ≡ true →
    ◌≡◌ {A = Received} (record { receiver = passed r (bits_of (M sccr1)) x; status = s }) (received r s sccr1 x)
unfolding plain passed received receiver_after outcome status_after entered raise_if fall_if
passes r s sccr1 x h =
    let rest : rests r.framer (three r) x ≡ true = first (rests r.framer (three r) x) _ h in
    let below : (x && reaches r (bits_of (M sccr1))) ≡ false = not-true _ (second (rests r.framer (three r) x) _ h) in
    let none : Resting r.framer (three r) x = resting r.framer (three r) x rest in
    rw (moves (bits_of (M sccr1)) r.framer (three r) x rest, none.begun, none.abandoned, none.ended) (simp and-true (rw (below, and-true)))

-- The parity of a frame that is not taken makes no difference.
pub if_taken : (s : Status) (o : Outcome) (f : Frame) (pe bad idles : Bool) →
    status_after s o f (o.taken && pe && bad) idles ≡ status_after s o f (pe && bad) idles
unfolding status_after entered
if_taken s o f pe bad idles = go o.taken
  where
    go : (taken : Bool) →
        raise_if idles
        (fall_if (o.abandoned || o.reached)
        (raise_if o.begun (entered (taken && not o.lost) (raise_if o.lost s OR) f (taken && pe && bad)) RAF)
        RAF)
        IDLE
        ≡
        raise_if idles
        (fall_if (o.abandoned || o.reached)
        (raise_if o.begun (entered (taken && not o.lost) (raise_if o.lost s OR) f (pe && bad)) RAF)
        RAF)
        IDLE
    go true = refl
    go false = refl

pub shifts : (t : Transmitter) (s : Status) (sccr1 : ℕ) → turns t s sccr1 ≡ false →
    ◌≡◌ {A = Sent} (record { transmitter = shifted t; status = s }) (sent t s sccr1)
unfolding turns shifted sent raise_if
shifts t s sccr1 h =
    let over : ended t ≡ false = none₁ (ended t) (begins_preamble t sccr1) (begins_frame t s sccr1) h in
    let preamble : begins_preamble t sccr1 ≡ false = none₂ (ended t) (begins_preamble t sccr1) (begins_frame t s sccr1) h in
    let frame : begins_frame t s sccr1 ≡ false = none₃ (ended t) (begins_preamble t sccr1) (begins_frame t s sccr1) h in
    rw (over, preamble, frame, and-true)

-- One sample, put together from the transmitter's and the receiver's.
pub samples : (s : Sci) (x : Bool) →
    let t : Sent = sent s.transmitter s.status s.sccr1 in
    after_received (after_sent s t) (listened (RE s.sccr1) s.receiver t.status s.sccr1 x)
    (accounted (RE s.sccr1) s.account (outcome s.receiver t.status s.sccr1 x))
    ≡ sampled s x
unfolding sampled
samples s x = go (RE s.sccr1) (after_sent s (sent s.transmitter s.status s.sccr1))
  where
    go : (re : Bool) (s : Sci) →
        after_received s (listened re s.receiver s.status s.sccr1 x)
        (accounted re s.account (outcome s.receiver s.status s.sccr1 x))
        ≡ heard re s x
    go true s = refl
    go false s = refl

-- With TIE, TCIE, RIE and ILIE clear nothing asks.
pub masked : (s : Sci) → s.sccr1 / 16 % 16 ≡ 0 → asks s ≡ false
masked s h =
    let tie : TIE s.sccr1 ≡ false = ne_eqb (s.sccr1 / 128 % 2) 1 (λ v. omega arith) in
    let tcie : TCIE s.sccr1 ≡ false = ne_eqb (s.sccr1 / 64 % 2) 1 (λ v. omega arith) in
    let rie : RIE s.sccr1 ≡ false = ne_eqb (s.sccr1 / 32 % 2) 1 (λ v. omega arith) in
    let ilie : ILIE s.sccr1 ≡ false = ne_eqb (s.sccr1 / 16 % 2) 1 (λ v. omega arith) in
    rw (tie, tcie, rie, ilie) (simp and-false)
