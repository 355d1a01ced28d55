-- The receiver's events while a frame comes on its wire: before the frame's last sample nothing is taken. Assumes nothing.
use mathlib.Core.Path.{◌≡◌, refl, ap, sym, subst, ◌∙◌}
use mathlib.Core.Bool.{Bool, true, false, cond, and-false}
use mathlib.Core.List.{List, [], ◌∷◌, ◌++◌, append_assoc}
use Prim.Native.Nat.{ℕ, zero, suc, ◌+◌, ◌*◌, ◌-◌, ◌≤◌, ◌<◌}
use native.Mathlib.Omega.{arith}
use native.Mathlib.Decide.{dec_lt}
use lib.ListN.{length, get_or, replicate, length-append, length-replicate}
use Rattle.sci.specs.model.Control.{M, bits_of}
use Rattle.sci.specs.model.Framer as framer
use Rattle.sci.specs.model.Receiver.{full, received}
use Rattle.sci.specs.model.Transmitter.{sent}
use Rattle.sci.specs.model.Serial.{active, due, sampled, counted, clocked}
use Rattle.sci.specs.claims.Levels.{low_bits, frame_levels, end_sample}
use Rattle.sci.specs.claims.History as half
use Rattle.sci.specs.claims.History.{sampling}
use Rattle.sci.specs.claims.Overrun.{Mark, sample_marks}
use Rattle.sci.specs.claims.Wire.{Access, accessed, Same}
use Rattle.sci.specs.claims.Wire as wire
use Rattle.sci.specs.declared.status.Status.{Status}
use Rattle.sci.specs.declared.receiver.Receiver.{Receiver}
use Rattle.sci.specs.declared.receiver.Received.{Received}
use Rattle.sci.specs.declared.serial.Sci.{Sci}
use Rattle.sci.proofs.History.{clocks}
use Rattle.sci.proofs.Flagged.{has_flag}
use Rattle.sci.proofs.Sending.{low_length}
use Rattle.sci.proofs.Stages.{Stage, free}
use Rattle.sci.proofs.Going.{On, on_line, line_of, Counting, counting_sample}
use Rattle.sci.proofs.Heeding.{heeded, Untouched, untouched}
use Rattle.sci.proofs.Linked.{same_M}
use Rattle.sci.proofs.Sampling.{is_due, not_due, samples, counts, re_active}
use Rattle.sci.proofs.Timing.{ReceiverAt, sample_heard, receiver_access, receiver_counts, receiver_samples}
use Rattle.sci.proofs.Pace.{earlier, ReceiverOn}
use Rattle.qsm.specs.model.Event.{held, clock_module}
use Rattle.qsm.specs.declared.state.Module.{Module}
use Rattle.qsm.specs.declared.event.Event.{Event}
use Rattle.qsm.specs.declared.event.Event.TheVariants.{Reset, Hold}
use Rattle.qsm.specs.declared.event.Event.TheVariants as event
use Rattle.claims_histories.specs.History.{after, run, played_clocks, clock_marks, event_marks, log}
use Rattle.claims_histories.specs.Sentence.{rxd_in, ReceiverStays, word_marks}
use Rattle.claims_histories.proofs.Follows.{follows}
use Rattle.claims_histories.proofs.Given.{accessed_all, makes, access_half, Kept}
use Rattle.claims_histories.proofs.OnWire.{receiver_kept}
use Rattle.claims_histories.proofs.Carried.{Shows}
use Rattle.claims_histories.proofs.Marking.{quiet_marks, words_append, access_words, counting_sent}

module _ (c w P v : ℕ) (near : v < P) (q : ℕ) where
  abbrev n : ℕ
  n = bits_of (M c)

  abbrev pub bits : List Bool
  bits = low_bits n w

  -- On its way through the frame, t clocks after it began; with the idle count, and IDLE clear.
  pub record Hearing (t : ℕ) (s : Sci) : Type 0 where
    pub on : ReceiverOn c 0 bits free P (t + v) s
    pub counting : Counting 0 q on.k s.receiver s.status

  abbrev end : ℕ
  end = suc (end_sample n) * P

  pub sized : n ≡ length bits
  sized = sym (low_length n w)

  abbrev told : Sci → Status
  told s = (sent s.transmitter s.status s.sccr1).status

  pub same_n : (t : ℕ) (s : Sci) → Hearing t s → bits_of (M s.sccr1) ≡ n
  same_n t s h = ap bits_of (same_M s.sccr1 c h.on.at.control)

  takes : (t : ℕ) (s : Sci) (x : Bool) (h : Hearing t s) → h.on.p + 1 ≡ P → clocked s x ≡ sampled s x
  takes t s x h full =
      samples s x (re_active s h.on.at.on) (is_due s h.on.p h.on.at.count (full ∙ sym h.on.at.rate))

  pub hears : (t : ℕ) (s : Sci) (x : Bool) (h : Hearing t s) → h.on.p + 1 ≡ P →
      wire.hearing (clocked s x) ≡ received s.receiver (told s) s.sccr1 x
  hears t s x h full = ap wire.hearing (takes t s x h full) ∙ sample_heard s x h.on.at.on

  -- The level in the clock t, where a sample is due in it.
  pub level_then : (t : ℕ) (s : Sci) (x : Bool) (h : Hearing t s) →
      ((k p : ℕ) → p < P → k * P + p ≡ t → x ≡ get_or (frame_levels bits) k true) → h.on.p + 1 ≡ P → x ≡ get_or (frame_levels bits) h.on.k true
  level_then t s x h f e = f h.on.k (P - 1 - v) (omega arith) (omega (arith, h.on.time))

  no_mark : (b : Bool) (s : Sci) (x : Bool) → framer.ends s.receiver.framer ≡ false →
      cond b (sample_marks s (sent s.transmitter s.status s.sccr1).status x) [] ≡ []
  no_mark true s x e = quiet_marks s.receiver (sent s.transmitter s.status s.sccr1).status s.sccr1 x _ s.receiver.framer.shift e
  no_mark false s x e = refl

  pub clock_quiet : (t : ℕ) (s : Sci) (x : Bool) → Hearing t s → suc (t + v) < end →
      cond (sampling s) (sample_marks s (sent s.transmitter s.status s.sccr1).status x) [] ≡ []
  clock_quiet t s x h l = go (dec_lt (h.on.p + 1) P)
    where
      go : Dec (h.on.p + 1 < P) → cond (sampling s) (sample_marks s (sent s.transmitter s.status s.sccr1).status x) [] ≡ []
      go (yes u) =
          let d : due s ≡ false = not_due s h.on.p h.on.at.count (omega (arith, h.on.at.rate)) in
          let z : sampling s ≡ false = rw (d, and-false (active s)) in
          rw z
      go (no u) =
          let few : suc h.on.k ≤ end_sample n =
          earlier P (suc h.on.k) 0 (end_sample n) (P - 1) (omega (arith, h.on.time, h.on.small)) (omega (arith, h.on.small)) in
          let o : On n 0 (line_of 0 bits) (0 + h.on.k) = on_line n 0 bits (0 + h.on.k) sized (omega (arith, few)) in
          no_mark (sampling s) s x (ap framer.ends h.on.at.going.hearing.framer ∙ o.quiet)

  -- One clock before the last sample.
  pub clock_hears : (t : ℕ) (s : Sci) (x : Bool) → Hearing t s → suc (t + v) < end →
      ((k p : ℕ) → p < P → k * P + p ≡ t → x ≡ get_or (frame_levels bits) k true) → Hearing (suc t) (clocked s x)
  clock_hears t s x h l f = go (dec_lt (h.on.p + 1) P)
    where
      go : Dec (h.on.p + 1 < P) → Hearing (suc t) (clocked s x)
      go (yes u) =
          let e : clocked s x ≡ counted s =
          counts s x (re_active s h.on.at.on) (not_due s h.on.p h.on.at.count (omega (arith, h.on.at.rate))) in
          record {
            on =
                record {
                  k = h.on.k;
                  p = h.on.p + 1;
                  at = receiver_counts c 0 bits free (0 + h.on.k) P h.on.p s x h.on.at u;
                  small = u;
                  time = omega (arith, h.on.time);
                };
            counting = subst (λ (r : Sci). Counting 0 q h.on.k r.receiver r.status) (sym e) h.counting;
          }
      go (no u) =
          let full : h.on.p + 1 ≡ P = omega (arith, h.on.small) in
          let few : suc h.on.k ≤ end_sample n =
          earlier P (suc h.on.k) 0 (end_sample n) (P - 1) (omega (arith, h.on.time)) (omega (arith, h.on.small)) in
          let y : x ≡ get_or (frame_levels bits) h.on.k true = level_then t s x h f full in
          let o : On n 0 (line_of 0 bits) (0 + h.on.k) = on_line n 0 bits (0 + h.on.k) sized (omega (arith, few)) in
          let z : h.on.k ≡ 0 + h.on.k = omega arith in
          let z' : suc (0 + h.on.k) ≡ 0 + suc h.on.k = omega arith in
          record {
            on =
                record {
                  k = suc h.on.k;
                  p = 0;
                  at =
                      subst (λ (j : ℕ). ReceiverAt c 0 bits free j P 0 (clocked s x)) z'
                      (receiver_samples c 0 bits sized free (0 + h.on.k) P h.on.p s x h.on.at full
                      (y ∙ ap (λ (j : ℕ). get_or (frame_levels bits) j true) z) (omega (arith, few)));
                  small = omega (arith, h.on.small);
                  time = omega (arith, h.on.time, h.on.small);
                };
            counting =
                subst (λ (r : Received). Counting 0 q (suc h.on.k) r.receiver r.status) (sym (hears t s x h full))
                (counting_sample s.sccr1 0 q bits (λ z. absurd (omega arith)) h.on.k s.receiver (told s) x
                (counting_sent q h.on.k s.receiver s.transmitter s.status s.sccr1 h.counting)
                (ap framer.ends h.on.at.going.hearing.framer ∙ o.quiet) y (omega (arith, few, same_n t s h)));
          }

  -- What clocks and events before the last sample leave.
  pub record Went (ms : List Mark) (t k : ℕ) (s : Sci) (rest : List Bool) : Type 0 where
    pub u : ℕ
    pub time : u ≡ t + k
    pub hearing : Hearing u s
    pub quiet : word_marks ms ≡ []
    pub later : Shows n w P u rest

  pub clocks_quiet : (j : ℕ) (y : Bool) (m : Module) (rest : List Bool) (t : ℕ) → Hearing t m.sci → Shows n w P t (replicate j y ++ rest) →
      t + j + v < end → Went (clock_marks j y m) t j (half.run (clocks j y) m.sci) rest
  unfolding half.run half.step clock_module
  clocks_quiet zero y m rest t h f l = record { u = t; time = omega arith; hearing = h; quiet = refl; later = f }
  clocks_quiet (suc j) y m rest t h f l =
      let g : Hearing (suc t) (clocked m.sci y) = clock_hears t m.sci y h (omega arith) f.0 in
      let k : Went (clock_marks j y (clock_module y m)) (suc t) j (half.run (clocks j y) (clocked m.sci y)) rest =
      clocks_quiet j y (clock_module y m) rest (suc t) g f.1 (omega arith) in
      record {
        u = k.u;
        time = omega (arith, k.time);
        hearing = k.hearing;
        quiet =
            ap (λ (l : List Mark). word_marks (l ++ clock_marks j y (clock_module y m))) (clock_quiet t m.sci y h (omega arith))
            ∙ k.quiet;
        later = k.later;
      }

  heeded_free : (a : Access) → heeded a free ≡ free
  heeded_free wire.read_status = refl
  heeded_free wire.read_data = refl
  heeded_free (wire.write_data x upper) = refl
  heeded_free (wire.write_control x upper lower) = refl

  touched : (ks : List Access) (t : ℕ) (s : Sci) → Kept Same ks s → Hearing t s → Hearing t (accessed_all ks s)
  touched [] t s u h = h
  touched (a ∷ ks) t s u h =
      let m : Untouched a s (accessed a s) = untouched s a h.on.at.on u.0 in
      touched ks t (accessed a s) u.1
      (record {
        on =
            record {
              k = h.on.k;
              p = h.on.p;
              at =
                  subst (λ (st : Stage). ReceiverAt c 0 bits st (0 + h.on.k) P h.on.p (accessed a s)) (heeded_free a)
                  (receiver_access c 0 bits free (0 + h.on.k) P h.on.p s a u.0 h.on.at);
              small = h.on.small;
              time = h.on.time;
            };
        counting =
            record {
              idle = m.clear 4 h.counting.idle;
              early = λ z. subst (λ (r : Receiver). r.idle ≤ q + h.on.k) (sym m.receiver) (h.counting.early z);
              late = λ z. subst (λ (r : Receiver). r.idle + 0 < h.on.k) (sym m.receiver) (h.counting.late z);
            };
      })

  pub events_quiet : (es : List Event) (m : Module) (rest : List Bool) (t : ℕ) → Hearing t m.sci → ReceiverStays es m →
      Shows n w P t (rxd_in es m ++ rest) → t + length (rxd_in es m) + v < end → Went (log es m) t (length (rxd_in es m)) (run es m).sci rest
  unfolding run log rxd_in
  events_quiet [] m rest t h s f l = record { u = t; time = omega arith; hearing = h; quiet = refl; later = f }
  events_quiet (Reset ∷ es) m rest t h s f l = absurd s.0
  events_quiet (Hold pins y j ∷ es) m rest t h s f l =
      let e : Event = Hold pins y j in
      let z : Module = after e m in
      let i : ℕ = played_clocks m j in
      let d : length (replicate i y ++ rxd_in es z) ≡ i + length (rxd_in es z) =
      length-append (replicate i y) (rxd_in es z) ∙ ap (λ (q : ℕ). q + length (rxd_in es z)) (length-replicate i y) in
      let a : Went (clock_marks i y (held m pins)) t i (half.run (clocks i y) m.sci) (rxd_in es z ++ rest) =
      clocks_quiet i y (held m pins) (rxd_in es z ++ rest) t h
      (subst (Shows n w P t) (append_assoc (replicate i y) (rxd_in es z) rest) f) (omega (arith, d)) in
      let b : Went (log es z) a.u (length (rxd_in es z)) (run es z).sci rest =
      events_quiet es z rest a.u (subst (Hearing a.u) (sym (follows e m)) a.hearing) s.1 a.later (omega (arith, d, a.time)) in
      record {
        u = b.u;
        time = omega (arith, d, a.time, b.time);
        hearing = b.hearing;
        quiet =
            words_append (clock_marks i y (held m pins)) (log es z) ∙ ap (λ (k : List Mark). k ++ word_marks (log es z)) a.quiet ∙ b.quiet;
        later = b.later;
      }
  events_quiet (event.Access a ∷ es) m rest t h s f l =
      let z : Module = after (event.Access a) m in
      let b : Went (log es z) t (length (rxd_in es z)) (run es z).sci rest =
      events_quiet es z rest t
      (subst (Hearing t) (access_half a m s.0.same) (touched (makes a m) t m.sci (receiver_kept a m s.0) h)) s.1 f l in
      record {
        u = b.u;
        time = b.time;
        hearing = b.hearing;
        quiet =
            words_append (event_marks (event.Access a) m) (log es z)
            ∙ ap (λ (k : List Mark). k ++ word_marks (log es z))
            (access_words a m (has_flag 6 m.sci.status ∙ h.on.at.going.rdrf))
            ∙ b.quiet;
        later = b.later;
      }
