-- One clock and one access of a serial half whose transmitter sends a frame.
-- Assumes nothing.
use Prim.Native.Nat.{ℕ, suc, ◌+◌, ◌*◌, ◌<◌}
use mathlib.Core.Path.{◌≡◌, refl, ap, sym, subst, ◌∙◌}
use mathlib.Core.Bool.{Bool, true, false, not, ◌&&◌, cond}
use native.Mathlib.Omega.{arith}
use Rattle.steps.specs.Bits.{merge}
use Rattle.sci.specs.model.Flags.{RAF, TC, TDRE, receive_flags, transmit_flags}
use Rattle.sci.specs.claims.Members.{member}
use Rattle.sci.specs.model.Status.{has, raise_if, fall_if}
use Rattle.sci.specs.model.Control.{SCBR, M, TE, RE, bits_of, frame_samples}
use Rattle.sci.specs.model.Transmitter.{begins_frame, free as free', ends, sent}
use Rattle.sci.specs.model.Parts.{after_sent}
use Rattle.sci.specs.model.Serial.{active, due, heard, sampled, counted, prescaled, clocked, sccr1_word, with_sccr1, stopped, wrote_sccr1}
use Rattle.sci.specs.claims.Link.{data_bits}
use Rattle.sci.specs.claims.Wire.{Access, read_status, read_data, write_data, write_control, accessed}
use Rattle.sci.specs.declared.status.Status.{Status}
use Rattle.sci.specs.declared.transmitter.Transmitter.{Transmitter}
use Rattle.sci.specs.declared.serial.Sci.{Sci}
use Rattle.sci.proofs.Membership.{and_left, and_right}
use Rattle.sci.proofs.Flagged.{is_set, set_markSeen, raise_off, raise_keeps, fall_keeps, fallSeen_clear}
use Rattle.sci.proofs.Sending.{Sending, keeps_sending, begins_sending, no_frame}
use Rattle.sci.proofs.Samples.{transmit_flags_holds}
use Rattle.sci.proofs.Sampling.{is_due, not_due, samples, counts, Sampled, sample_leaves, te_active, runs_active}

-- The sender, k samples after its frame of w began, with count p of P clocks.
pub record SenderAt (n w k : ℕ) (P p : ℕ) (s : Sci) : Type 0 where
  pub sending : Sending n w k s.transmitter
  pub rate : 2 * SCBR s.sccr0 ≡ P
  pub count : s.prescaler ≡ p

pub sender_samples : (n w k P p : ℕ) (s : Sci) (x : Bool) → SenderAt n w k P p s → p + 1 ≡ P → suc k < frame_samples n →
    SenderAt n w (suc k) P 0 (clocked s x)
sender_samples n w k P p s x h e l =
    let c : clocked s x ≡ sampled s x =
    samples s x (runs_active n w k s h.sending (omega arith)) (is_due s p h.count (e ∙ sym h.rate)) in
    let m : Sampled s (sampled s x) = sample_leaves s x in
    subst (λ (r : Sci). SenderAt n w (suc k) P 0 r) (sym c)
    (record {
      sending =
          subst (λ (t : Transmitter). Sending n w (suc k) t) (sym m.transmitter)
          (keeps_sending n w k s.transmitter s.status s.sccr1 h.sending l);
      rate = ap (λ (v : ℕ). 2 * SCBR v) m.sccr0 ∙ h.rate;
      count = m.prescaler;
    })

pub sender_counts : (n w k P p : ℕ) (s : Sci) (x : Bool) → SenderAt n w k P p s → p + 1 < P → k < frame_samples n →
    SenderAt n w k P (p + 1) (clocked s x)
sender_counts n w k P p s x h l f =
    let c : clocked s x ≡ counted s =
    counts s x (runs_active n w k s h.sending f) (not_due s p h.count (omega (arith, h.rate))) in
    subst (λ (r : Sci). SenderAt n w k P (p + 1) r) (sym c)
    (record { sending = h.sending; rate = h.rate; count = omega (arith, h.count, h.rate) })

pub sender_access : (n w k P p : ℕ) (s : Sci) (a : Access) → SenderAt n w k P p s → SenderAt n w k P p (accessed a s)
unfolding accessed wrote_sccr1
sender_access n w k P p s read_status h = record { sending = h.sending; rate = h.rate; count = h.count }
sender_access n w k P p s read_data h = record { sending = h.sending; rate = h.rate; count = h.count }
sender_access n w k P p s (write_data v upper) h =
    record { sending = record { left = h.sending.left; shift = h.sending.shift }; rate = h.rate; count = h.count }
sender_access n w k P p s (write_control v upper lower) h = go (RE (merge (sccr1_word s) v upper lower))
  where
    go : (b : Bool) → SenderAt n w k P p (stopped b (with_sccr1 s (merge (sccr1_word s) v upper lower)))
    go true = record { sending = record { left = h.sending.left; shift = h.sending.shift }; rate = h.rate; count = h.count }
    go false = record { sending = record { left = h.sending.left; shift = h.sending.shift }; rate = h.rate; count = h.count }

-- A frame begins with TE set and the shifter free.
begins_both : (s : Sci) → begins_frame s.transmitter s.status s.sccr1 ≡ true → TE s.sccr1 && free' s.transmitter ≡ true
begins_both s e =
    and_left (TE s.sccr1 && free' s.transmitter) (not s.transmitter.preamble)
    (and_left (TE s.sccr1 && free' s.transmitter && not s.transmitter.preamble) (not (has s.status TDRE)) e)

pub begins_te : (s : Sci) → begins_frame s.transmitter s.status s.sccr1 ≡ true → TE s.sccr1 ≡ true
begins_te s e = and_left (TE s.sccr1) (free' s.transmitter) (begins_both s e)

pub begins_free : (s : Sci) → begins_frame s.transmitter s.status s.sccr1 ≡ true → free' s.transmitter ≡ true
begins_free s e = and_right (TE s.sccr1) (free' s.transmitter) (begins_both s e)

pub begins_active : (s : Sci) → begins_frame s.transmitter s.status s.sccr1 ≡ true → active s ≡ true
begins_active s e = te_active s (begins_te s e)

-- The clock at which the frame begins.
pub sender_begins : (s : Sci) (x : Bool) → due s ≡ true → begins_frame s.transmitter s.status s.sccr1 ≡ true →
    SenderAt (bits_of (M s.sccr1)) (data_bits s.sccr1 s.transmitter.scdr) 0 (2 * SCBR s.sccr0) 0 (clocked s x)
sender_begins s x d e =
    let m : Sampled s (sampled s x) = sample_leaves s x in
    subst
    (λ (r : Sci).
    SenderAt (bits_of (M s.sccr1)) (data_bits s.sccr1 s.transmitter.scdr) 0 (2 * SCBR s.sccr0) 0 r)
    (sym (samples s x (begins_active s e) d))
    (record {
      sending =
          subst (λ (r : Transmitter). Sending (bits_of (M s.sccr1)) (data_bits s.sccr1 s.transmitter.scdr) 0 r)
          (sym m.transmitter)
          (begins_sending s.transmitter s.status s.sccr1 e);
      rate = ap (λ (v : ℕ). 2 * SCBR v) m.sccr0;
      count = m.prescaler;
    })

-- TDRE stays clear until a frame begins.
sent_tdre : (t : Transmitter) (s : Status) (c : ℕ) → 1 < t.left → is_set 8 (sent t s c).status ≡ is_set 8 s
unfolding sent member
sent_tdre t s c l =
    let a : Bool = ends t && has s TDRE in
    raise_off 8 (begins_frame t s c) (raise_if a s TC) TDRE (ap (λ (x : Bool). x && true) (no_frame t s c l))
    ∙ raise_keeps 8 a s TC refl

pub tdre_clock : (s : Sci) (x : Bool) → (due s ≡ true → 1 < s.transmitter.left) → is_set 8 s.status ≡ false → is_set 8 (clocked s x).status ≡ false
unfolding clocked sampled
tdre_clock s x l h = go (active s) (due s) l
  where
    heard_tdre : 1 < s.transmitter.left → (b : Bool) →
        is_set 8 (heard b (after_sent s (sent s.transmitter s.status s.sccr1)) x).status ≡ false
    heard_tdre l true =
        transmit_flags_holds s.receiver (sent s.transmitter s.status s.sccr1).status s.sccr1 x 8 refl refl refl refl refl refl refl
        ∙ sent_tdre s.transmitter s.status s.sccr1 l ∙ h
    heard_tdre l false = sent_tdre s.transmitter s.status s.sccr1 l ∙ h

    go : (a d : Bool) → (d ≡ true → 1 < s.transmitter.left) → is_set 8 (cond a (prescaled d s x) s).status ≡ false
    go true true l = heard_tdre (l refl) (RE s.sccr1)
    go true false l = h
    go false true l = h
    go false false l = h

pub tdre_access : (s : Sci) (a : Access) → is_set 8 s.status ≡ false → is_set 8 (accessed a s).status ≡ false
unfolding accessed wrote_sccr1 fall_if member
tdre_access s read_status h = set_markSeen 8 s.status ∙ h
tdre_access s read_data h = fallSeen_clear 8 s.status receive_flags h
tdre_access s (write_data v upper) h = fallSeen_clear 8 s.status transmit_flags h
tdre_access s (write_control v upper lower) h = go (RE (merge (sccr1_word s) v upper lower))
  where
    go : (b : Bool) → is_set 8 (stopped b (with_sccr1 s (merge (sccr1_word s) v upper lower))).status ≡ false
    go true = h
    go false = fall_keeps 8 true s.status RAF refl ∙ h
