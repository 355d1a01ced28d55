-- What a transmitter shifts out ends with a one: a frame's stop bit, or a preamble's last. So TXD is at one where the shifter is free.
-- Assumes nothing.
use Prim.Native.Nat.{ℕ, zero, suc, ◌+◌, ◌-◌, ◌/◌, ◌%◌, ◌^◌, ◌<◌}
use mathlib.Core.Path.{◌≡◌, refl, ap, sym, subst, ◌∙◌}
use mathlib.Core.List.{List, [], ◌∷◌}
use mathlib.Core.Bool.{Bool, true, false, cond, not, ◌&&◌, ◌||◌, or-true}
use native.Mathlib.Omega.{arith}
use lib.Dec.{eqb}
use lib.Pow.{shr-shr}
use borrow.Author.Tests.{eqb-true, eqb-false, leb-true}
use Rattle.steps.specs.Bits.{merge}
use Rattle.sci.specs.model.Control.{PT, PE, M, RE, bits_of, frame_samples, sccr0_bits}
use Rattle.sci.specs.model.Transmitter.{level, data_sent, frame_bits, preamble_bits, new_left, new_shift, passed, begins_preamble, begins_frame, free, sent}
use Rattle.sci.specs.model.Serial.{reset_sci, active, due, prescaled, clocked, data_written, sccr0_set, wrote_sccr0, sccr1_word, with_sccr1, stopped, wrote_sccr1, sccr0_guarded, sccr1_guarded}
use Rattle.sci.specs.claims.History as history
use Rattle.sci.specs.claims.Wire.{Wired, Access, read_status, read_data, write_data, write_control, accessed, Step, clock, at_sender, at_receiver, step, steps, FreeAtOne}
use Rattle.sci.specs.declared.status.Status.{Status}
use Rattle.sci.specs.declared.transmitter.Transmitter.{Transmitter}
use Rattle.sci.specs.declared.serial.Sci.{Sci}
use Rattle.sci.proofs.Frames.{by_cond}
use Rattle.sci.proofs.Sampling.{sample_leaves}

-- The last bit that is left of the shifter is a one.
abbrev Last : ℕ → ℕ → Type 0
Last left shift = 0 < left → shift / 2 ^ ((left - 1) / 16) % 2 ≡ 1

pub record Stops (t : Transmitter) : Type 0 where
  pub last : Last t.left t.shift

-- A preamble and a frame begin so, and a sample keeps it.
preamble_last : (m : Bool) → Last (frame_samples (bits_of m)) (preamble_bits (bits_of m))
preamble_last true h = refl
preamble_last false h = refl

frame_last : (m : Bool) (w : ℕ) → Last (frame_samples (bits_of m)) (frame_bits (bits_of m) w)
frame_last true w h = omega arith
frame_last false w h = omega arith

goes_on : (left shift : ℕ) → Last left shift → Last (left - 1) (passed (eqb ((left - 1) % 16) 0) shift)
goes_on left shift l = go (eqb ((left - 1) % 16) 0) refl
  where
    go : (b : Bool) → eqb ((left - 1) % 16) 0 ≡ b → Last (left - 1) (cond b (shift / 2) shift)
    go true e h =
        let d : (left - 1) % 16 ≡ 0 = eqb-true ((left - 1) % 16) 0 e in
        let k : 1 + (left - 1 - 1) / 16 ≡ (left - 1) / 16 = omega arith in
        ap (λ (x : ℕ). x % 2) (shr-shr shift 1 ((left - 1 - 1) / 16) ∙ ap (λ (i : ℕ). shift / 2 ^ i) k) ∙ l (omega arith)
    go false e h =
        let k : (left - 1 - 1) / 16 ≡ (left - 1) / 16 = omega (arith, eqb-false ((left - 1) % 16) 0 e) in
        ap (λ (i : ℕ). shift / 2 ^ i % 2) k ∙ l (omega arith)

pub sent_stops : (t : Transmitter) (s : Status) (c : ℕ) → (begins_frame t s c ≡ false → Stops t) → Stops (sent t s c).transmitter
unfolding sent
sent_stops t s c h = go (begins_preamble t c) (begins_frame t s c) h
  where
    go : (p f : Bool) → (f ≡ false → Stops t) →
        Stops
        (record {
          scdr = t.scdr;
          preamble = t.preamble && not p;
          shift =
              new_shift p f (preamble_bits (bits_of (M c))) (frame_bits (bits_of (M c)) (data_sent (bits_of (M c)) (PE c) (PT c) t.scdr))
              (passed (eqb (new_left (p || f) (bits_of (M c)) t.left % 16) 0) t.shift);
          left = new_left (p || f) (bits_of (M c)) t.left;
        })
    go true f h = record { last = preamble_last (M c) }
    go false true h = record { last = frame_last (M c) (data_sent (bits_of (M c)) (PE c) (PT c) t.scdr) }
    go false false h = record { last = goes_on t.left t.shift (h refl).last }

-- So through every clock and access.
pub clock_stops : (s : Sci) (x : Bool) → Stops s.transmitter → Stops (clocked s x).transmitter
unfolding clocked
clock_stops s x h =
    by_cond (λ (r : Sci). Stops r.transmitter) (active s) (λ _. go (due s)) (λ _. h)
  where
    go : (d : Bool) → Stops (prescaled d s x).transmitter
    go true =
        subst Stops (sym (sample_leaves s x).transmitter) (sent_stops s.transmitter s.status s.sccr1 (λ _. h))
    go false = h

control_stops : (s : Sci) (v : ℕ) (upper lower : Bool) → Stops s.transmitter → Stops (wrote_sccr1 s v upper lower).transmitter
unfolding wrote_sccr1
control_stops s v upper lower h = go (RE (merge (sccr1_word s) v upper lower))
  where
    go : (b : Bool) → Stops (stopped b (with_sccr1 s (merge (sccr1_word s) v upper lower))).transmitter
    go true = record { last = h.last }
    go false = record { last = h.last }

access_stops : (a : Access) (s : Sci) → Stops s.transmitter → Stops (accessed a s).transmitter
unfolding accessed
access_stops read_status s h = h
access_stops read_data s h = h
access_stops (write_data v upper) s h = record { last = h.last }
access_stops (write_control v upper lower) s h = control_stops s v upper lower h

pub steps_stop : (es : List Step) (q : Wired) → Stops q.sender.transmitter → Stops (steps es q).sender.transmitter
unfolding steps step
steps_stop [] q h = h
steps_stop (clock x ∷ es) q h = steps_stop es (step (clock x) q) (clock_stops q.sender x h)
steps_stop (at_sender a ∷ es) q h = steps_stop es (step (at_sender a) q) (access_stops a q.sender h)
steps_stop (at_receiver a ∷ es) q h = steps_stop es (step (at_receiver a) q) h

-- Where the shifter is free.
pub free_one : (t : Transmitter) → Stops t → free t ≡ true → level t ≡ true
free_one t h e = go t.left refl
  where
    go : (k : ℕ) → t.left ≡ k → level t ≡ true
    go zero z = rw z
    go (suc zero) z =
        let o : t.shift % 2 ≡ 1 = omega (arith, (rw z at h.last) (omega arith)) in
        rw o (or-true (not (not (eqb t.left 0))))
    go (suc (suc k)) z = absurd (omega (arith, leb-true t.left 1 e))

-- Of every history since a reset.
rate_stops : (g : Bool) (s : Sci) (v : ℕ) (upper lower : Bool) → Stops s.transmitter →
    Stops (cond g s (wrote_sccr0 s v upper lower)).transmitter
unfolding wrote_sccr0
rate_stops true s v upper lower h = h
rate_stops false s v upper lower h = go (eqb (sccr0_bits (merge s.sccr0 v upper lower)) s.sccr0)
  where
    go : (b : Bool) → Stops (sccr0_set b s (sccr0_bits (merge s.sccr0 v upper lower))).transmitter
    go true = h
    go false = h

data_stops : (lower : Bool) (s : Sci) (v : ℕ) (upper : Bool) → Stops s.transmitter → Stops (data_written lower s v upper).transmitter
data_stops true s v upper h = record { last = h.last }
data_stops false s v upper h = h

step_stops : (e : history.Step) (s : Sci) → Stops s.transmitter → Stops (history.step e s).transmitter
unfolding history.step
step_stops history.reset s h = record { last = λ z. absurd (omega arith) }
step_stops (history.clock x) s h = clock_stops s x h
step_stops (history.reads scsr scdr) s h = h
step_stops (history.writesSccr0 v upper lower) s h = rate_stops (sccr0_guarded s v upper lower) s v upper lower h
step_stops (history.writesSccr1 v upper lower) s h =
    by_cond (λ (r : Sci). Stops r.transmitter) (sccr1_guarded s v upper lower) (λ _. h) (λ _. control_stops s v upper lower h)
step_stops (history.writesScdr v upper lower) s h = data_stops lower s v upper h

run_stops : (es : List history.Step) (s : Sci) → Stops s.transmitter → Stops (history.run es s).transmitter
unfolding history.run
run_stops [] s h = h
run_stops (e ∷ es) s h = run_stops es (history.step e s) (step_stops e s h)

pub free_at_one : FreeAtOne
free_at_one es e =
    free_one (history.run es reset_sci).transmitter (run_stops es reset_sci (record { last = λ z. absurd (omega arith) })) e
