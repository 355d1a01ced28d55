-- With the frame's last sample its word enters SCDR, with RDRF and no other receive flag. Assumes nothing.
use mathlib.Core.Path.{◌≡◌, refl, ap, ap₂, sym, subst, ◌∙◌}
use mathlib.Core.Bool.{Bool, true, false, cond, not, ◌&&◌}
use mathlib.Core.List.{List, [], ◌∷◌, ◌++◌}
use Prim.Native.Nat.{ℕ, zero, suc, ◌+◌, ◌*◌, ◌%◌, ◌<◌}
use native.Mathlib.Omega.{arith}
use lib.ListN.{length, get_or, replicate}
use Rattle.sci.specs.model.Flags.{OR}
use Rattle.sci.specs.model.Status.{has}
use Rattle.sci.specs.model.Control.{PT, PE, M, bits_of}
use Rattle.sci.specs.model.Bits.{parity_bit}
use Rattle.sci.specs.model.Framer.{frame_of}
use Rattle.sci.specs.model.Framer as framer
use Rattle.sci.specs.model.Receiver.{full}
use Rattle.sci.specs.model.Transmitter.{sent}
use Rattle.sci.specs.model.Serial.{clocked}
use Rattle.sci.specs.claims.Levels.{low_bits, value, frame_levels, end_sample}
use Rattle.sci.specs.claims.History as half
use Rattle.sci.specs.claims.History.{sampling}
use Rattle.sci.specs.claims.Overrun.{Mark, word_came, sample_marks}
use Rattle.sci.specs.claims.Link.{InScdr}
use Rattle.sci.specs.claims.Wire as wire
use Rattle.sci.specs.declared.status.Status.{Status}
use Rattle.sci.specs.declared.framer.Framer.{Framer}
use Rattle.sci.specs.declared.receiver.Received.{Received}
use Rattle.sci.specs.declared.serial.Sci.{Sci}
use Rattle.sci.proofs.History.{clocks}
use Rattle.sci.proofs.Flagged.{is_set, has_flag}
use Rattle.sci.proofs.Walk.{bit_at}
use Rattle.sci.proofs.Heard as heard
use Rattle.sci.proofs.Arriving.{stop_level, idle_again}
use Rattle.sci.proofs.Stages.{free}
use Rattle.sci.proofs.Going.{after_ones, line_of, Going, Counting}
use Rattle.sci.proofs.Heeding.{going_sent}
use Rattle.sci.proofs.Linked.{same_PE, same_PT}
use Rattle.sci.proofs.Sampling.{is_due, re_active}
use Rattle.sci.proofs.Timing.{receiver_ends}
use Rattle.sci.proofs.Pace.{aligned}
use Rattle.qsm.specs.model.Event.{clock_module}
use Rattle.qsm.specs.declared.state.Module.{Module}
use Rattle.claims_histories.specs.History.{clock_marks}
use Rattle.claims_histories.specs.Sentence.{word_marks}
use Rattle.claims_histories.proofs.Carried.{Shows}
use Rattle.claims_histories.proofs.Marking.{words_append, counting_sent, fits, entered_marks, entered_noise}
use Rattle.claims_histories.proofs.Hears.{Hearing, sized, same_n, hears, level_then, clock_quiet, clock_hears}

module _ (c w P v : ℕ) (near : v < P) (q : ℕ) where
  abbrev n : ℕ
  n = bits_of (M c)

  abbrev bits : List Bool
  bits = low_bits n w

  abbrev end : ℕ
  end = suc (end_sample n) * P

  abbrev told : Sci → Status
  told s = (sent s.transmitter s.status s.sccr1).status

  -- The frame's last sample.
  pub record Came (ms : List Mark) (s : Sci) : Type 0 where
    pub delivered : InScdr (value bits) (wire.hearing s)
    pub idle : is_set 4 s.status ≡ false
    pub noise : s.receiver.noise ≡ 0
    pub marks : word_marks ms ≡ word_came (value bits) ∷ []

  module _ (even : PE c && parity_bit (PT c) (value bits) ≡ false) where
    last_clock_holds : (t : ℕ) (s : Sci) (x : Bool) → Hearing c w P v near q t s → suc (t + v) ≡ end →
        ((k p : ℕ) → p < P → k * P + p ≡ t → x ≡ get_or (frame_levels bits) k true) →
        Came (cond (sampling s) (sample_marks s (told s) x) []) (clocked s x)
    last_clock_holds t s x h l f =
        let k : ℕ = h.on.k in
        let z : k ≡ end_sample n =
        aligned P k h.on.p 0 (end_sample n) h.on.small (omega (arith, near)) (omega (arith, h.on.time, l)) in
        let y : k * P ≡ end_sample n * P = ap (λ (j : ℕ). j * P) z in
        let all : h.on.p + 1 ≡ P = omega (arith, h.on.time, l) in
        let i : k ≡ 0 + (16 * length bits + 16 + 9) = omega (arith, sized c w P v near q) in
        let one : x ≡ true =
        level_then c w P v near q t s x h f all ∙ ap (λ (j : ℕ). get_or (frame_levels bits) j true) i ∙ stop_level 0 bits 9 (omega arith) in
        let p : Received = record { receiver = s.receiver; status = told s } in
        let g : Going n 0 (line_of 0 bits) (0 + k) free p =
        going_sent n 0 (line_of 0 bits) (0 + k) free (wire.hearing s) s.transmitter s.sccr1 h.on.at.going in
        let stands : s.receiver.framer ≡ bit_at 0 9 true true 0 (value bits) =
        h.on.at.going.hearing.framer ∙ after_ones n 0 bits k ∙ ap (heard.after n (frame_levels bits)) z ∙ heard.at_end_holds n bits (sized c w P v near q) in
        let empty : full (told s) ≡ false = rw (has_flag 6 (told s) ∙ g.rdrf, has_flag 3 (told s) ∙ g.clean.or) in
        let now : ℕ = bits_of (M s.sccr1) in
        let j : 0 + k ≡ 0 + end_sample now = omega (arith, z, same_n c w P v near q t s h) in
        let j' : k ≡ 0 + end_sample now = omega (arith, z, same_n c w P v near q t s h) in
        let g' : Going now 0 (line_of 0 bits) (0 + end_sample now) free p =
        subst (λ (a : ℕ). Going a 0 (line_of 0 bits) (0 + end_sample now) free p) (sym (same_n c w P v near q t s h))
        (subst (λ (a : ℕ). Going n 0 (line_of 0 bits) a free p) j g) in
        let even' : PE s.sccr1 && parity_bit (PT s.sccr1) (value bits) ≡ false =
        rw (same_PE s.sccr1 c h.on.at.control, same_PT s.sccr1 c h.on.at.control) even in
        let samples-now : sampling s ≡ true =
        rw (re_active s h.on.at.on, is_due s h.on.p h.on.at.count (all ∙ sym h.on.at.rate), h.on.at.on) in
        record {
          delivered =
              receiver_ends c 0 bits (sized c w P v near q) free (0 + k) P h.on.p s x h.on.at all (ap (λ (a : ℕ). 0 + a) z) refl one even;
          idle =
              ap (λ (r : Received). is_set 4 r.status) (hears c w P v near q t s x h all)
              ∙ idle_again s.sccr1 0 bits (same_n c w P v near q t s h ∙ sized c w P v near q) p g' x one even' q
              (subst (λ (a : ℕ). Counting 0 q a s.receiver (told s)) j'
              (counting_sent q k s.receiver s.transmitter s.status s.sccr1 h.counting));
          noise =
              ap (λ (r : Received). r.receiver.noise) (hears c w P v near q t s x h all)
              ∙ entered_noise s.receiver (told s) s.sccr1 x (ap framer.ends stands) g.hearing.awake empty
              ∙ ap₂ (λ (a : Framer) (b : Bool). (frame_of a b).noise) stands one;
          marks =
              ap (λ (b : Bool). word_marks (cond b (sample_marks s (told s) x) [])) samples-now
              ∙ ap word_marks (entered_marks s.receiver (told s) s.sccr1 x (not (has (told s) OR)) s.receiver.framer.shift
              (ap framer.ends stands) g.hearing.awake empty)
              ∙ ap (λ (a : Framer). word_came (a.shift % 512) ∷ []) stands
              ∙ ap (λ (a : ℕ). word_came a ∷ []) (fits (M c) w);
        }

    pub clocks_end : (j : ℕ) (y : Bool) (m : Module) (t : ℕ) → Hearing c w P v near q t m.sci → Shows n w P t (replicate (suc j) y) →
        t + suc j + v ≡ end → Came (clock_marks (suc j) y m) (half.run (clocks (suc j) y) m.sci)
    unfolding half.run half.step clock_module
    clocks_end zero y m t h f l =
        let k : Came (cond (sampling m.sci) (sample_marks m.sci (told m.sci) y) []) (clocked m.sci y) =
        last_clock_holds t m.sci y h (omega arith) f.0 in
        record {
          delivered = k.delivered;
          idle = k.idle;
          noise = k.noise;
          marks =
              words_append (cond (sampling m.sci) (sample_marks m.sci (told m.sci) y) []) []
              ∙ ap (λ (a : List Mark). a ++ []) k.marks;
        }
    clocks_end (suc j) y m t h f l =
        let g : Hearing c w P v near q (suc t) (clocked m.sci y) = clock_hears c w P v near q t m.sci y h (omega arith) f.0 in
        let k : Came (clock_marks (suc j) y (clock_module y m)) (half.run (clocks (suc j) y) (clocked m.sci y)) =
        clocks_end j y (clock_module y m) (suc t) g f.1 (omega arith) in
        record {
          delivered = k.delivered;
          idle = k.idle;
          noise = k.noise;
          marks =
              ap (λ (l : List Mark). word_marks (l ++ clock_marks (suc j) y (clock_module y m))) (clock_quiet c w P v near q t m.sci y h (omega arith))
              ∙ k.marks;
        }
