-- The sender alone: TXD from the stop bit on, TXD driven through the frame, and the next frame.
-- Assumes nothing.
use Prim.Native.Nat.{ℕ, suc, ◌+◌, ◌*◌, ◌-◌, ◌≤◌, ◌<◌}
use mathlib.Core.Path.{◌≡◌, ap, sym, subst, ◌∙◌}
use mathlib.Core.List.{List, [], ◌∷◌}
use mathlib.Core.Bool.{Bool, true, false, not, ◌||◌, or-true, false≢true}
use native.Mathlib.Omega.{arith}
use native.Mathlib.Decide.{dec_lt}
use lib.Dec.{eqb, leb}
use lib.ListN.{length, get_or}
use borrow.Author.Tests.{ne_eqb, le-leb}
use Rattle.sci.specs.model.Flags.{TDRE}
use Rattle.sci.specs.model.Status.{has}
use Rattle.sci.specs.model.Control.{TE, frame_samples}
use Rattle.sci.specs.model.Transmitter.{begins_frame}
use Rattle.sci.specs.model.Serial.{due, txd}
use Rattle.sci.specs.claims.Levels.{low_bits, frame_levels}
use Rattle.sci.specs.claims.Link.{data_bits}
use Rattle.sci.specs.claims.Wire.{Wired, Step, clock, at_sender, at_receiver, step, steps, clocks_in, Rests, period, width, StopBitRests, FrameDrives}
use Rattle.sci.specs.declared.serial.Sci.{Sci}
use Rattle.sci.proofs.Flagged.{is_set, has_flag}
use Rattle.sci.proofs.Sending.{shows, low_length}
use Rattle.sci.proofs.Arriving.{stop_level}
use Rattle.sci.proofs.Sampling.{is_due, not_due}
use Rattle.sci.proofs.Sender.{tdre_clock, tdre_access, sender_begins}
use Rattle.sci.proofs.Pace.{aligned, earlier, fewer, SenderOn, sender_clock, sender_touched, due_rate}

sender_run : (n w P t : ℕ) (es : List Step) (q : Wired) → SenderOn n w P t q.sender → t + clocks_in es < frame_samples n * P →
    SenderOn n w P (t + clocks_in es) (steps es q).sender
unfolding steps step clocks_in
sender_run n w P t [] q h l =
    let z : t ≡ t + 0 = omega arith in
    subst (λ (i : ℕ). SenderOn n w P i q.sender) z h
sender_run n w P t (clock x ∷ es) q h l =
    let z : suc t + clocks_in es ≡ t + suc (clocks_in es) = omega arith in
    subst (λ (i : ℕ). SenderOn n w P i (steps es (step (clock x) q)).sender) z
    (sender_run n w P (suc t) es (step (clock x) q) (sender_clock n w P t q.sender x h (omega arith)) (omega arith))
sender_run n w P t (at_sender a ∷ es) q h l = sender_run n w P t es (step (at_sender a) q) (sender_touched n w P t q.sender a h) l
sender_run n w P t (at_receiver a ∷ es) q h l = sender_run n w P t es (step (at_receiver a) q) h l

-- From the stop bit on TXD is one.
stop_one : (n w P t : ℕ) (s : Sci) → SenderOn n w P t s → 16 * suc n * P ≤ t → t < frame_samples n * P → txd s ≡ true
stop_one n w P t s h a b =
    let low : 16 * suc n ≤ h.k = earlier P (16 * suc n) 0 h.k h.p (omega (arith, h.time)) h.small in
    let high : h.k < frame_samples n = fewer P h.k (frame_samples n) (omega (arith, h.time)) in
    let bits : List Bool = low_bits n w in
    let m : length bits ≡ n = low_length n w in
    let z : h.k ≡ 0 + (16 * length bits + 16 + (h.k - 16 * suc n)) = omega arith in
    shows n w h.k s.transmitter h.at.sending high ∙ ap (λ (i : ℕ). get_or (frame_levels bits) i true) z
    ∙ stop_level 0 bits (h.k - 16 * suc n) (omega arith)

rests_run : (n w P t : ℕ) (es : List Step) (q : Wired) → SenderOn n w P t q.sender → 16 * suc n * P ≤ t →
    t + clocks_in es < frame_samples n * P → Rests es q
unfolding Rests steps step clocks_in
rests_run n w P t [] q h a l = tt
rests_run n w P t (clock x ∷ es) q h a l = (
  stop_one n w P t q.sender h a (omega arith),
  rests_run n w P (suc t) es (step (clock x) q) (sender_clock n w P t q.sender x h (omega arith)) (omega arith) (omega arith),
)
rests_run n w P t (at_sender e ∷ es) q h a l =
    rests_run n w P t es (step (at_sender e) q) (sender_touched n w P t q.sender e h) a l
rests_run n w P t (at_receiver e ∷ es) q h a l = rests_run n w P t es (step (at_receiver e) q) h a l

-- A word that waits goes on waiting until the frame's last sample.
still_loaded : (n w P t : ℕ) (s : Sci) → SenderOn n w P t s → suc t < frame_samples n * P → due s ≡ true → 1 < s.transmitter.left
still_loaded n w P t s h l d = go (dec_lt (h.p + 1) P)
  where
    go : Dec (h.p + 1 < P) → 1 < s.transmitter.left
    go (yes u) = absurd (false≢true (sym (not_due s h.p h.at.count (omega (arith, h.at.rate))) ∙ d))
    go (no u) =
        let e : suc h.k * P ≡ suc t = omega (arith, h.time, h.small) in
        let few : suc h.k < frame_samples n = fewer P (suc h.k) (frame_samples n) (omega (arith, e)) in
        omega (arith, h.at.sending.left)

tdre_run : (n w P t : ℕ) (es : List Step) (q : Wired) → SenderOn n w P t q.sender → t + clocks_in es < frame_samples n * P →
    is_set 8 q.sender.status ≡ false → is_set 8 (steps es q).sender.status ≡ false
unfolding steps step clocks_in
tdre_run n w P t [] q h l o = o
tdre_run n w P t (clock x ∷ es) q h l o =
    tdre_run n w P (suc t) es (step (clock x) q) (sender_clock n w P t q.sender x h (omega arith)) (omega arith)
    (tdre_clock q.sender x (still_loaded n w P t q.sender h (omega arith)) o)
tdre_run n w P t (at_sender a ∷ es) q h l o =
    tdre_run n w P t es (step (at_sender a) q) (sender_touched n w P t q.sender a h) l (tdre_access q.sender a o)
tdre_run n w P t (at_receiver a ∷ es) q h l o = tdre_run n w P t es (step (at_receiver a) q) h l o

begins_next : (s : Sci) → TE s.sccr1 ≡ true → s.transmitter.left ≡ 1 → s.transmitter.preamble ≡ false → is_set 8 s.status ≡ false →
    begins_frame s.transmitter s.status s.sccr1 ≡ true
begins_next s t l p h =
    let f : leb s.transmitter.left 1 ≡ true = le-leb s.transmitter.left 1 (omega arith) in
    let d : has s.status TDRE ≡ false = has_flag 8 s.status ∙ h in
    rw (t, f, p, d)

pub stop_bit_rests : StopBitRests
unfolding step
stop_bit_rests q x es later b low e =
    let s : Sci = q.sender in
    let n : ℕ = width q in
    let P : ℕ = period q in
    let w : ℕ = data_bits s.sccr1 s.transmitter.scdr in
    let pos : 0 < P = due_rate s b.sample in
    let q₁ : Wired = step (clock x) q in
    let h : SenderOn n w P 0 q₁.sender =
    record { k = 0; p = 0; at = sender_begins s x b.sample b.frame; small = pos; time = omega arith } in
    let h₁ : SenderOn n w P (0 + clocks_in es) (steps es q₁).sender = sender_run n w P 0 es q₁ h (omega arith) in
    let h₂ : SenderOn n w P (0 + clocks_in es + clocks_in later) (steps later (steps es q₁)).sender =
    sender_run n w P (0 + clocks_in es) later (steps es q₁) h₁ (omega arith) in
    let z : h₂.k ≡ 16 * n + 31 =
    aligned P h₂.k h₂.p 0 (16 * n + 31) h₂.small pos (omega (arith, h₂.time)) in
    let y : h₂.k * P ≡ (16 * n + 31) * P = ap (λ (k : ℕ). k * P) z in
    let full : h₂.p + 1 ≡ P = omega (arith, h₂.time) in
    let one_left : (steps later (steps es q₁)).sender.transmitter.left ≡ 1 = omega (arith, h₂.at.sending.left) in
    let ends : due (steps later (steps es q₁)).sender ≡ true =
    is_due (steps later (steps es q₁)).sender h₂.p h₂.at.count (full ∙ sym h₂.at.rate) in
    let one : txd (steps later (steps es q₁)).sender ≡ true =
    stop_one n w P (0 + clocks_in es + clocks_in later) (steps later (steps es q₁)).sender h₂ (omega arith) (omega arith) in
    record {
      rests = rests_run n w P (0 + clocks_in es) later (steps es q₁) h₁ (omega arith) (omega arith);
      one = one;
      sample = ends;
      last = one_left;
      next = λ e te p.
          record {
            sample = ends;
            frame =
                begins_next (steps later (steps es q₁)).sender te one_left p
                (tdre_run n w P (0 + clocks_in es) later (steps es q₁) h₁ (omega arith)
                (sym (has_flag 8 (steps es q₁).sender.status) ∙ e));
          };
    }

pub frame_drives : FrameDrives
unfolding step
frame_drives q x es b l =
    let s : Sci = q.sender in
    let n : ℕ = width q in
    let P : ℕ = period q in
    let w : ℕ = data_bits s.sccr1 s.transmitter.scdr in
    let q₁ : Wired = step (clock x) q in
    let h : SenderOn n w P 0 q₁.sender =
    record {
      k = 0;
      p = 0;
      at = sender_begins s x b.sample b.frame;
      small = due_rate s b.sample;
      time = omega arith;
    } in
    let h₁ : SenderOn n w P (0 + clocks_in es) (steps es q₁).sender = sender_run n w P 0 es q₁ h (omega arith) in
    let r : Sci = (steps es q₁).sender in
    let few : h₁.k < frame_samples n = fewer P h₁.k (frame_samples n) (omega (arith, h₁.time)) in
    let e : eqb r.transmitter.left 0 ≡ false = ne_eqb r.transmitter.left 0 (λ z. omega (arith, h₁.at.sending.left)) in
    ap (λ (d : Bool). TE r.sccr1 || not d) e ∙ or-true (TE r.sccr1)
