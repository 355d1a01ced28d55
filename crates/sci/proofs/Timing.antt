-- One clock and one access of a serial half whose receiver takes a frame.
-- Assumes nothing.
use Prim.Native.Nat.{ℕ, suc, ◌+◌, ◌*◌, ◌<◌}
use mathlib.Core.Path.{◌≡◌, ap, sym, subst, ◌∙◌}
use mathlib.Core.List.{List}
use mathlib.Core.Bool.{Bool, true, false, ◌&&◌}
use native.Mathlib.Omega.{arith}
use lib.ListN.{length, get_or}
use Rattle.sci.specs.model.Control.{SCBR, PT, PE, M, RE, bits_of, settings}
use Rattle.sci.specs.model.Bits.{parity_bit}
use Rattle.sci.specs.model.Receiver.{received}
use Rattle.sci.specs.model.Transmitter.{sent}
use Rattle.sci.specs.model.Serial.{sampled, counted, clocked}
use Rattle.sci.specs.claims.Levels.{value, end_sample}
use Rattle.sci.specs.claims.Link.{InScdr}
use Rattle.sci.specs.claims.Wire.{Access, accessed, Same, hearing}
use Rattle.sci.specs.declared.receiver.Receiver.{Receiver}
use Rattle.sci.specs.declared.receiver.Received.{Received}
use Rattle.sci.specs.declared.serial.Sci.{Sci}
use Rattle.sci.proofs.Stages.{clean_clear, Stage, waiting, free}
use Rattle.sci.proofs.Going.{line_of, Rested, Hearing, Going, going_sample}
use Rattle.sci.proofs.Arriving.{delivered, still_clean, searches_again, ones_again, awake_again}
use Rattle.sci.proofs.Linked.{same_M, same_PE, same_PT}
use Rattle.sci.proofs.Sampling.{is_due, not_due, samples, counts, Sampled, sample_leaves, re_active}
use Rattle.sci.proofs.Heeding.{going_sent, heeded, Untouched, untouched}

-- The receiver's sample.
pub sample_heard : (s : Sci) (x : Bool) → RE s.sccr1 ≡ true →
    hearing (sampled s x) ≡ received s.receiver (sent s.transmitter s.status s.sccr1).status s.sccr1 x
unfolding sampled
sample_heard s x e = rw e

-- The receiver after k samples of g ones and a frame, with count p of P clocks.
pub record ReceiverAt (c g : ℕ) (bits : List Bool) (st : Stage) (k P p : ℕ) (s : Sci) : Type 0 where
  pub going : Going (bits_of (M c)) g (line_of g bits) k st (hearing s)
  pub control : settings s.sccr1 ≡ settings c
  pub on : RE s.sccr1 ≡ true
  pub rate : 2 * SCBR s.sccr0 ≡ P
  pub count : s.prescaler ≡ p

pub receiver_counts : (c g : ℕ) (bits : List Bool) (st : Stage) (k P p : ℕ) (s : Sci) (x : Bool) → ReceiverAt c g bits st k P p s → p + 1 < P →
    ReceiverAt c g bits st k P (p + 1) (clocked s x)
receiver_counts c g bits st k P p s x h l =
    let e : clocked s x ≡ counted s = counts s x (re_active s h.on) (not_due s p h.count (omega (arith, h.rate))) in
    subst (λ (r : Sci). ReceiverAt c g bits st k P (p + 1) r) (sym e)
    (record { going = h.going; control = h.control; on = h.on; rate = h.rate; count = omega (arith, h.count, h.rate) })

pub receiver_access : (c g : ℕ) (bits : List Bool) (st : Stage) (k P p : ℕ) (s : Sci) (a : Access) → Same s (accessed a s) →
    ReceiverAt c g bits st k P p s → ReceiverAt c g bits (heeded a st) k P p (accessed a s)
receiver_access c g bits st k P p s a m h =
    let u : Untouched a s (accessed a s) = untouched s a h.on m in
    record {
      going =
          record {
            hearing =
                subst (λ (r : Receiver). Hearing (bits_of (M c)) g (line_of g bits) k r) (sym u.receiver) h.going.hearing;
            clean = clean_clear s.status (accessed a s).status u.clear h.going.clean;
            rdrf = u.rdrf st h.going.rdrf;
          };
      control = u.control ∙ h.control;
      on = u.on ∙ h.on;
      rate = ap (λ (v : ℕ). 2 * SCBR v) u.sccr0 ∙ h.rate;
      count = u.prescaler ∙ h.count;
    }

module _ (c g : ℕ) (bits : List Bool) (sized : bits_of (M c) ≡ length bits) (st : Stage) (k P p : ℕ) (s : Sci)
    (x : Bool) (h : ReceiverAt c g bits st k P p s) (full : p + 1 ≡ P) where
  abbrev pub told : Received
  told = record { receiver = s.receiver; status = (sent s.transmitter s.status s.sccr1).status }

  takes : clocked s x ≡ sampled s x
  takes = samples s x (re_active s h.on) (is_due s p h.count (full ∙ sym h.rate))

  hears : hearing (clocked s x) ≡ received s.receiver told.status s.sccr1 x
  hears = ap hearing takes ∙ sample_heard s x h.on

  -- The number of bits by SCCR1 as it is now.
  same_n : bits_of (M s.sccr1) ≡ bits_of (M c)
  same_n = ap bits_of (same_M s.sccr1 c h.control)

  before : Going (bits_of (M s.sccr1)) g (line_of g bits) k st told
  before =
      subst (λ (n : ℕ). Going n g (line_of g bits) k st told) (sym same_n)
      (going_sent (bits_of (M c)) g (line_of g bits) k st (hearing s) s.transmitter s.sccr1 h.going)

  pub receiver_samples : x ≡ get_or (line_of g bits) k true → k < g + end_sample (bits_of (M c)) → ReceiverAt c g bits st (suc k) P 0 (clocked s x)
  receiver_samples e l =
      let m : Sampled s (sampled s x) = sample_leaves s x in
      record {
        going =
            subst (λ (n : ℕ). Going n g (line_of g bits) (suc k) st (hearing (clocked s x))) same_n
            (subst (λ (r : Received). Going (bits_of (M s.sccr1)) g (line_of g bits) (suc k) st r) (sym hears)
            (going_sample s.sccr1 g bits (same_n ∙ sized) k st told x before e (omega (arith, same_n))));
        control = ap (λ (r : Sci). settings r.sccr1) takes ∙ ap settings m.sccr1 ∙ h.control;
        on = ap (λ (r : Sci). RE r.sccr1) takes ∙ ap RE m.sccr1 ∙ h.on;
        rate = ap (λ (r : Sci). 2 * SCBR r.sccr0) takes ∙ ap (λ (v : ℕ). 2 * SCBR v) m.sccr0 ∙ h.rate;
        count = ap (λ (r : Sci). r.prescaler) takes ∙ m.prescaler;
      }

  module _ (e : k ≡ g + end_sample (bits_of (M c))) (taken : st ≡ free) (one : x ≡ true)
      (even : PE c && parity_bit (PT c) (value bits) ≡ false) where
    stands : Going (bits_of (M s.sccr1)) g (line_of g bits) (g + end_sample (bits_of (M s.sccr1))) free told
    stands =
        subst (λ (i : Stage). Going (bits_of (M s.sccr1)) g (line_of g bits) (g + end_sample (bits_of (M s.sccr1))) i told) taken
        (subst (λ (j : ℕ). Going (bits_of (M s.sccr1)) g (line_of g bits) j st told)
        (e ∙ ap (λ (n : ℕ). g + end_sample n) (sym same_n)) before)

    even_now : PE s.sccr1 && parity_bit (PT s.sccr1) (value bits) ≡ false
    even_now = rw (same_PE s.sccr1 c h.control, same_PT s.sccr1 c h.control) even

    pub receiver_ends : InScdr (value bits) (hearing (clocked s x))
    receiver_ends =
        subst (λ (r : Received). InScdr (value bits) r) (sym hears)
        (delivered s.sccr1 g bits (same_n ∙ sized) told stands x one even_now)

    pub receiver_rests_holds : Rested waiting (hearing (clocked s x))
    receiver_rests_holds =
        subst (λ (r : Received). Rested waiting r) (sym hears)
        (record {
          searches = searches_again s.sccr1 g bits (same_n ∙ sized) told stands x one even_now;
          ones = ones_again s.sccr1 g bits (same_n ∙ sized) told stands x one even_now;
          awake = awake_again s.sccr1 g bits (same_n ∙ sized) told stands x one even_now;
          clean = still_clean s.sccr1 g bits (same_n ∙ sized) told stands x one even_now;
          rdrf = tt;
        })
