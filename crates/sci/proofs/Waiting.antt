-- One clock and one access of a serial half whose receiver waits for a frame.
-- Assumes nothing.
use Prim.Native.Nat.{ℕ, ◌+◌, ◌*◌, ◌<◌}
use mathlib.Core.Path.{◌≡◌, refl, ap, sym, subst, ◌∙◌}
use mathlib.Core.List.{List}
use mathlib.Core.Bool.{Bool, true, false, not, ◌&&◌}
use native.Mathlib.Omega.{arith}
use lib.Dec.{leb}
use lib.ListN.{replicate, length, length-replicate}
use borrow.Author.Tests.{ne_eqb, leb-false}
use Rattle.sci.specs.model.Control.{SCBR, M, RE, bits_of, settings}
use Rattle.sci.specs.model.Framer.{fixed, framed}
use Rattle.sci.specs.model.Receiver.{three, received}
use Rattle.sci.specs.model.Transmitter.{sent}
use Rattle.sci.specs.model.Serial.{due, sampled, clocked}
use Rattle.sci.specs.claims.Levels.{framer_after}
use Rattle.sci.specs.claims.Wire.{Access, accessed, Same, hearing}
use Rattle.sci.specs.declared.receiver.Receiver.{Receiver}
use Rattle.sci.specs.declared.receiver.Received.{Received}
use Rattle.sci.specs.declared.serial.Sci.{Sci}
use Rattle.sci.proofs.Stages.{clean_clear, Stage}
use Rattle.sci.proofs.Going.{line_of, Rested, start, Going, going_sample}
use Rattle.sci.proofs.Sampling.{samples, counts, Sampled, sample_leaves, re_active}
use Rattle.sci.proofs.Heeding.{rested_sent, heeded, Untouched, untouched}
use Rattle.sci.proofs.Timing.{sample_heard}

-- The receiver before the frame begins: any count.
pub record WaitingAt (c : ℕ) (s₀ : Sci) (st : Stage) (s : Sci) : Type 0 where
  pub rested : Rested st (hearing s)
  pub on : RE s.sccr1 ≡ true
  pub control : settings s.sccr1 ≡ settings c
  pub rate : s.sccr0 ≡ s₀.sccr0

pub waiting_access : (c : ℕ) (s₀ : Sci) (st : Stage) (s : Sci) (a : Access) → Same s (accessed a s) → WaitingAt c s₀ st s →
    WaitingAt c s₀ (heeded a st) (accessed a s)
waiting_access c s₀ st s a m h =
    let u : Untouched a s (accessed a s) = untouched s a h.on m in
    record {
      rested =
          record {
            searches = ap (λ (r : Receiver). r.framer) u.receiver ∙ h.rested.searches;
            ones = ap three u.receiver ∙ h.rested.ones;
            awake = ap (λ (r : Receiver). r.asleep) u.receiver ∙ h.rested.awake;
            clean = clean_clear s.status (accessed a s).status u.clear h.rested.clean;
            rdrf = u.rdrf st h.rested.rdrf;
          };
      on = u.on ∙ h.on;
      control = u.control ∙ h.control;
      rate = u.sccr0 ∙ h.rate;
    }

-- A sample of one leaves it searching after three ones.
rested_sample : (c : ℕ) (st : Stage) (p : Received) → Rested st p → Rested st (received p.receiver p.status c true)
unfolding framer_after framed fixed
rested_sample c st p r =
    let bits : List Bool = replicate (bits_of (M c)) false in
    let sized : bits_of (M c) ≡ length bits = sym (length-replicate (bits_of (M c)) false) in
    let z : Going (bits_of (M c)) 1 (line_of 1 bits) 1 st (received p.receiver p.status c true) =
    going_sample c 1 bits sized 0 st p true (start (bits_of (M c)) 1 bits st p r) refl (omega arith) in
    record {
      searches = z.hearing.framer;
      ones = z.hearing.ones (omega arith);
      awake = z.hearing.awake;
      clean = z.clean;
      rdrf = z.rdrf;
    }

pub waiting_clock : (c : ℕ) (s₀ : Sci) (st : Stage) (s : Sci) (x : Bool) → x ≡ true → WaitingAt c s₀ st s →
    WaitingAt c s₀ st (clocked s x)
waiting_clock c s₀ st s x one h = go (due s) refl
  where
    go : (b : Bool) → due s ≡ b → WaitingAt c s₀ st (clocked s x)
    go false d =
        subst (λ (r : Sci). WaitingAt c s₀ st r) (sym (counts s x (re_active s h.on) d))
        (record { rested = record { searches = h.rested.searches; ones = h.rested.ones; awake = h.rested.awake; clean = h.rested.clean; rdrf = h.rested.rdrf }; on = h.on; control = h.control; rate = h.rate })
    go true d =
        let told : Received = record { receiver = s.receiver; status = (sent s.transmitter s.status s.sccr1).status } in
        let m : Sampled s (sampled s x) = sample_leaves s x in
        let e : hearing (sampled s x) ≡ received s.receiver told.status s.sccr1 true =
        sample_heard s x h.on ∙ ap (λ (b : Bool). received s.receiver told.status s.sccr1 b) one in
        subst (λ (r : Sci). WaitingAt c s₀ st r) (sym (samples s x (re_active s h.on) d))
        (record {
          rested =
              subst (λ (r : Received). Rested st r) (sym e)
              (rested_sample s.sccr1 st told (rested_sent st (hearing s) s.transmitter s.sccr1 h.rested));
          on = ap RE m.sccr1 ∙ h.on;
          control = ap settings m.sccr1 ∙ h.control;
          rate = m.sccr0 ∙ h.rate;
        })

-- After a clock the count is below a sample's clocks.
pub count_small : (s : Sci) (x : Bool) → RE s.sccr1 ≡ true → 0 < 2 * SCBR s.sccr0 → (clocked s x).prescaler < 2 * SCBR s.sccr0
count_small s x on pos = go (due s) refl
  where
    go : (b : Bool) → due s ≡ b → (clocked s x).prescaler < 2 * SCBR s.sccr0
    go false d =
        let y : leb (2 * SCBR s.sccr0) (s.prescaler + 1) ≡ false =
        sym (ap (λ (b : Bool). not b && leb (2 * SCBR s.sccr0) (s.prescaler + 1))
        (ne_eqb (2 * SCBR s.sccr0) 0 (λ v. omega arith))) ∙ d in
        let l : s.prescaler + 1 < 2 * SCBR s.sccr0 = leb-false (2 * SCBR s.sccr0) (s.prescaler + 1) y in
        rw (counts s x (re_active s on) d) (omega arith)
    go true d = rw (samples s x (re_active s on) d) (omega (arith, (sample_leaves s x).prescaler))
