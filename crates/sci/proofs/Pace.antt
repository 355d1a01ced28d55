-- The time since a frame began, of its sender and of its receiver.
-- Each side has k samples and a count p of P clocks, and k * P + p goes up by one a clock.
-- Assumes nothing.
use Prim.Native.Nat.{ℕ, zero, suc, ◌+◌, ◌*◌, ◌-◌, ◌≤◌, ◌<◌}
use mathlib.Core.Path.{◌≡◌, refl, ap, sym, subst, ◌∙◌}
use mathlib.Core.List.{List}
use mathlib.Core.Bool.{Bool, true, false, not}
use native.Mathlib.Omega.{arith}
use native.Mathlib.Decide.{dec_lt}
use native.Mathlib.Nat.{mul-le-mul_right}
use lib.Dec.{eqb, leb}
use lib.ListN.{replicate, length, get_or, length-replicate}
use lib.Seq.{get_or-append-add}
use borrow.Author.Tests.{not-true, eqb-false}
use Rattle.sci.specs.model.Control.{SCBR, M, bits_of, frame_samples}
use Rattle.sci.specs.model.Serial.{due, clocked}
use Rattle.sci.specs.claims.Levels.{frame_levels, end_sample}
use Rattle.sci.specs.claims.Wire.{Access, accessed}
use Rattle.sci.specs.declared.serial.Sci.{Sci}
use Rattle.sci.proofs.Membership.{and_left}
use Rattle.sci.proofs.Stages.{Stage}
use Rattle.sci.proofs.Going.{line_of}
use Rattle.sci.proofs.Sender.{SenderAt, sender_samples, sender_counts, sender_access}
use Rattle.sci.proofs.Timing.{ReceiverAt, receiver_samples, receiver_counts}

-- Equal times at the end of a sample period are in the same period.
pub aligned : (P k p v j : ℕ) → p < P → v < P → k * P + p + v + 1 ≡ j * P + P → k ≡ j
aligned P k p v j lp lv e = by_order (dec_lt k j) (dec_lt j k)
  where
    by_order : Dec (k < j) → Dec (j < k) → k ≡ j
    by_order (yes u) d = absurd (omega (arith, mul-le-mul_right P u))
    by_order (no u) (yes w) = absurd (omega (arith, mul-le-mul_right P w))
    by_order (no u) (no w) = omega arith

pub earlier : (P k p j q : ℕ) → k * P + p ≤ j * P + q → q < P → k ≤ j
earlier P k p j q e l = by_order (dec_lt j k)
  where
    by_order : Dec (j < k) → k ≤ j
    by_order (yes u) = absurd (omega (arith, mul-le-mul_right P u))
    by_order (no u) = omega arith

pub fewer : (P k j : ℕ) → k * P < j * P → k < j
fewer P k j e = by_order (dec_lt k j)
  where
    by_order : Dec (k < j) → k < j
    by_order (yes u) = u
    by_order (no u) =
        let v : j ≤ k = omega arith in
        absurd (omega (arith, mul-le-mul_right P v))

line_at : (g : ℕ) (bits : List Bool) (k : ℕ) → get_or (line_of g bits) (g + k) true ≡ get_or (frame_levels bits) k true
line_at g bits k =
    let z : g + k ≡ length (replicate g true) + k = rw (length-replicate g true) in
    ap (λ (i : ℕ). get_or (line_of g bits) i true) z ∙ get_or-append-add (replicate g true) (frame_levels bits) k true

-- One clock of each: the time since the frame began, as samples and count, goes up by one.
pub record SenderOn (n w P t : ℕ) (s : Sci) : Type 0 where
  pub k : ℕ
  pub p : ℕ
  pub at : SenderAt n w k P p s
  pub small : p < P
  pub time : k * P + p ≡ t

pub sender_clock : (n w P t : ℕ) (s : Sci) (x : Bool) → SenderOn n w P t s → suc t < frame_samples n * P → SenderOn n w P (suc t) (clocked s x)
sender_clock n w P t s x h l = go (dec_lt (h.p + 1) P)
  where
    go : Dec (h.p + 1 < P) → SenderOn n w P (suc t) (clocked s x)
    go (yes u) =
        record {
          k = h.k;
          p = h.p + 1;
          at = sender_counts n w h.k P h.p s x h.at u (fewer P h.k (frame_samples n) (omega (arith, h.time)));
          small = u;
          time = omega (arith, h.time);
        }
    go (no u) =
        let e : suc h.k * P ≡ suc t = omega (arith, h.time, h.small) in
        record {
          k = suc h.k;
          p = 0;
          at =
              sender_samples n w h.k P h.p s x h.at (omega (arith, h.small))
              (fewer P (suc h.k) (frame_samples n) (omega (arith, e)));
          small = omega (arith, h.small);
          time = omega (arith, e);
        }

pub sender_touched : (n w P t : ℕ) (s : Sci) (a : Access) → SenderOn n w P t s → SenderOn n w P t (accessed a s)
sender_touched n w P t s a h =
    record {
      k = h.k;
      p = h.p;
      at = sender_access n w h.k P h.p s a h.at;
      small = h.small;
      time = h.time;
    }

pub record ReceiverOn (c g : ℕ) (bits : List Bool) (st : Stage) (P t : ℕ) (s : Sci) : Type 0 where
  pub k : ℕ
  pub p : ℕ
  pub at : ReceiverAt c g bits st (g + k) P p s
  pub small : p < P
  pub time : k * P + p ≡ t

pub receiver_clock : (c g : ℕ) (bits : List Bool) (st : Stage) (P t : ℕ) (s : Sci) (x : Bool) → bits_of (M c) ≡ length bits →
    (h : ReceiverOn c g bits st P t s) → suc t < suc (end_sample (bits_of (M c))) * P →
    (h.p + 1 ≡ P → x ≡ get_or (frame_levels bits) h.k true) → ReceiverOn c g bits st P (suc t) (clocked s x)
receiver_clock c g bits st P t s x sized h l e = go (dec_lt (h.p + 1) P)
  where
    go : Dec (h.p + 1 < P) → ReceiverOn c g bits st P (suc t) (clocked s x)
    go (yes u) =
        record {
          k = h.k;
          p = h.p + 1;
          at = receiver_counts c g bits st (g + h.k) P h.p s x h.at u;
          small = u;
          time = omega (arith, h.time);
        }
    go (no u) =
        let f : h.p + 1 ≡ P = omega (arith, h.small) in
        let few : suc h.k ≤ end_sample (bits_of (M c)) =
        earlier P (suc h.k) 0 (end_sample (bits_of (M c))) (P - 1) (omega (arith, h.time)) (omega (arith, h.small)) in
        let z : suc (g + h.k) ≡ g + suc h.k = omega arith in
        record {
          k = suc h.k;
          p = 0;
          at =
              subst (λ (j : ℕ). ReceiverAt c g bits st j P 0 (clocked s x)) z
              (receiver_samples c g bits sized st (g + h.k) P h.p s x h.at f (e f ∙ sym (line_at g bits h.k)) (omega (arith, few)));
          small = omega (arith, h.small);
          time = omega (arith, h.time, h.small);
        }

pub due_rate : (s : Sci) → due s ≡ true → 0 < 2 * SCBR s.sccr0
due_rate s d =
    let e : eqb (2 * SCBR s.sccr0) 0 ≡ false =
    not-true (eqb (2 * SCBR s.sccr0) 0)
    (and_left (not (eqb (2 * SCBR s.sccr0) 0)) (leb (2 * SCBR s.sccr0) (s.prescaler + 1)) d) in
    pos (2 * SCBR s.sccr0) (eqb-false (2 * SCBR s.sccr0) 0 e)
  where
    pos : (k : ℕ) → (k ≡ 0 → ⊥) → 0 < k
    pos zero h = absurd (h refl)
    pos (suc k) h = omega arith
