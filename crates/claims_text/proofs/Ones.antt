-- Ones, and then a fair sender, to a receiver that searches: after three samples of ones it hears every frame. Assumes nothing.
use mathlib.Core.Path.{◌≡◌, refl, ap, sym, subst, ◌∙◌}
use mathlib.Core.Bool.{Bool, true, false, cond, ◌&&◌}
use mathlib.Core.List.{List, [], ◌∷◌, ◌++◌}
use mathlib.Core.Option.{none}
use Prim.Native.Nat.{ℕ, zero, suc, ◌+◌, ◌*◌, ◌≤◌, ◌<◌}
use native.Mathlib.Omega.{arith}
use native.Mathlib.Nat.{lt_of_mul-lt-mul_right}
use lib.ListN.{replicate}
use Rattle.sci.specs.model.Control.{SCBR, RE, M}
use Rattle.sci.specs.model.Framer.{searching, ends, frame_of, fixed, framed}
use Rattle.sci.specs.claims.Overrun.{Mark}
use Rattle.sci.specs.claims.Overrun as marks
use Rattle.sci.specs.declared.framer.Framer.{Framer}
use Rattle.sci.specs.declared.framer.Frame.{Frame}
use Rattle.qsm.specs.model.State.{reset_module}
use Rattle.qsm.specs.declared.state.Module.{Module}
use Rattle.qsm.specs.declared.event.Event.{Event}
use Rattle.claims_histories.specs.History.{run, log}
use Rattle.claims_histories.specs.Sentence.{rxd_in}
use Rattle.claims_histories.proofs.Lifted.{all, all_ops, all_log}
use Rattle.claims_histories.proofs.Uncounted.{rate_is_all_holds}
use Rattle.claims_histories.proofs.CountSmall.{since_small}
use Rattle.claims_polling.specs.Spacing.{samples_of}
use Rattle.claims_polling.specs.Rule.{lost_in, waiting}
use Rattle.claims_deadlines.specs.Deadline.{InTime, SpacedBy, SpacedFrom}
use Rattle.claims_deadlines.proofs.Events.{deadline}
use Rattle.claims_senders.specs.Fair.{SentFrame, words_sent, line, FairFrames}
use Rattle.claims_senders.specs.Heard.{Ended, ended_in, frames, frames_of, as_sent, earliest}
use Rattle.claims_senders.specs.Clocks.{sampled_at}
use Rattle.claims_senders.specs.Undamaged.{Undamaged, RightParity}
use Rattle.claims_senders.proofs.Receiving as serial
use Rattle.claims_senders.proofs.Sampled.{Stretch, stretch, clocks_heard}
use Rattle.claims_senders.proofs.Taking.{hears}
use Rattle.claims_senders.proofs.Undamaged.{AllGood, good_sent, goes_on}
use Rattle.claims_through.specs.Through.{StaysAwake, sample_of, bits_in, CameOrLost, StaysUndamaged, words_came}
use Rattle.claims_through.proofs.Steps.{all_levels, all_stays}
use Rattle.claims_through.proofs.Ended.{nine, all_ends, nine_sent}
use Rattle.claims_through.proofs.Spaced.{all_samples, none_spaced}
use Rattle.claims_through.proofs.Whole.{positive, whole_small, all_always, stays_on, all_came}

-- ---- samples

still : (n : ℕ) (q : Bool) → framed n searching q true ≡ searching
unfolding framed fixed
still n true = refl
still n false = refl

-- The frames that end are the same, however the samples are counted.
frames_any : (n k l : ℕ) (a b c : Bool) (f : Framer) (xs : List Bool) → frames (ended_in n k a b c f xs) ≡ frames (ended_in n l a b c f xs)
unfolding ended_in frames
frames_any n k l a b c f [] = refl
frames_any n k l a b c f (x ∷ xs) =
    go (ends f) (ended_in n (suc k) x a b (framed n f (a && b && c) x) xs) (ended_in n (suc l) x a b (framed n f (a && b && c) x) xs)
    (frames_any n (suc k) (suc l) x a b (framed n f (a && b && c) x) xs)
  where
    go : (over : Bool) (es fs : List Ended) → frames es ≡ frames fs →
        frames (cond over (record { sample = suc k; frame = frame_of f x } ∷ es) es) ≡ frames (cond over (record { sample = suc l; frame = frame_of f x } ∷ fs) fs)
    go true es fs e = ap (λ (l : List Frame). frame_of f x ∷ l) e
    go false es fs e = e

one_heard : (n k : ℕ) (a b c : Bool) (xs : List Bool) →
    ended_in n k a b c searching (true ∷ xs) ≡ ended_in n (suc k) true a b searching xs
unfolding ended_in
one_heard n k a b c xs = ap (λ (f : Framer). ended_in n (suc k) true a b f xs) (still n (a && b && c))

ones_heard : (u n k : ℕ) (xs : List Bool) → frames (ended_in n k true true true searching (replicate u true ++ xs)) ≡ frames_of n xs
ones_heard zero n k xs = frames_any n k 0 true true true searching xs
ones_heard (suc u) n k xs = ap frames (one_heard n k true true true (replicate u true ++ xs)) ∙ ones_heard u n (suc k) xs

three_heard : (u n k : ℕ) (a b c : Bool) (xs : List Bool) → 3 ≤ u → frames (ended_in n k a b c searching (replicate u true ++ xs)) ≡ frames_of n xs
three_heard zero n k a b c xs h = absurd (omega arith)
three_heard (suc zero) n k a b c xs h = absurd (omega arith)
three_heard (suc (suc zero)) n k a b c xs h = absurd (omega arith)
three_heard (suc (suc (suc u))) n k a b c xs h =
    let ys : List Bool = replicate u true ++ xs in
    ap frames
    (one_heard n k a b c (true ∷ (true ∷ ys)) ∙ one_heard n (suc k) true a b (true ∷ ys) ∙ one_heard n (suc (suc k)) true true a ys)
    ∙ ones_heard u n (suc (suc (suc k))) xs

one_spaced : (d n : ℕ) (a b c : Bool) (xs : List Bool) → SpacedFrom d n true a b searching none xs → SpacedFrom d n a b c searching none (true ∷ xs)
unfolding SpacedFrom
one_spaced d n a b c xs h = (λ _. tt, subst (λ (f : Framer). SpacedFrom d n true a b f none xs) (sym (still n (a && b && c))) h)

ones_spaced : (u d n : ℕ) (xs : List Bool) → SpacedFrom d n true true true searching none xs →
    SpacedFrom d n true true true searching none (replicate u true ++ xs)
ones_spaced zero d n xs h = h
ones_spaced (suc u) d n xs h = one_spaced d n true true true (replicate u true ++ xs) (ones_spaced u d n xs h)

three_spaced : (u d n : ℕ) (a b c : Bool) (xs : List Bool) → 3 ≤ u → SpacedFrom d n true true true searching none xs →
    SpacedFrom d n a b c searching none (replicate u true ++ xs)
three_spaced zero d n a b c xs h k = absurd (omega arith)
three_spaced (suc zero) d n a b c xs h k = absurd (omega arith)
three_spaced (suc (suc zero)) d n a b c xs h k = absurd (omega arith)
three_spaced (suc (suc (suc u))) d n a b c xs h k =
    let ys : List Bool = replicate u true ++ xs in
    one_spaced d n a b c (true ∷ (true ∷ ys)) (one_spaced d n true a b (true ∷ ys) (one_spaced d n true true a ys (ones_spaced u d n xs k)))

-- ---- events

-- A receiver that is on, awake and searches; on RXD ones for three samples at least, and then frames of a fair sender and nothing else.
pub record Sends (g : ℕ) (fs : List SentFrame) (es : List Event) (m : Module) : Type 0 where
  pub on : RE m.sci.sccr1 ≡ true
  pub awake : m.sci.receiver.asleep ≡ false
  pub runs : 0 < SCBR m.sci.sccr0
  pub searches : m.sci.receiver.framer ≡ searching
  pub stays : StaysAwake es m
  pub levels : rxd_in es m ≡ replicate g true ++ line fs
  pub long : 3 * sample_of m ≤ g
  pub fair : FairFrames (sample_of m) (bits_in m) fs

three_samples : (s p p' g u : ℕ) → p' < s → p + g ≡ u * s + p' → 3 * s ≤ g → 3 ≤ u
three_samples s p p' g u a e l =
    let b : 2 * s < u * s = omega arith in
    let c : 2 < u = lt_of_mul-lt-mul_right s b in
    omega arith

module _ (past es : List Event) (g : ℕ) (fs : List SentFrame) (h : Sends g fs es (run past reset_module)) where
  abbrev m : Module
  m = run past reset_module

  is_on : serial.On m.sci
  is_on =
      record {
        on = h.on;
        awake = h.awake;
        whole = whole_small m.sci.sccr0 (rate_is_all_holds past);
        phase = since_small past (positive (SCBR m.sci.sccr0) h.runs);
      }

  stays : serial.StaysAwake (all es m) m.sci
  stays = all_stays es m h.on h.awake h.stays

  first : Stretch (sample_of m) m.sci.prescaler g true
  first = stretch (sample_of m) m.sci.prescaler g true is_on.phase

  three : 3 ≤ first.u
  three = three_samples (sample_of m) m.sci.prescaler first.p' g first.u first.small first.sum h.long

  samples_are : sampled_at (sample_of m) m.sci.prescaler (serial.rxd_in (all es m))
      ≡ replicate first.u true ++ sampled_at (sample_of m) first.p' (line fs)
  samples_are =
      ap (sampled_at (sample_of m) m.sci.prescaler) (all_levels es m ∙ h.levels) ∙ first.same (line fs)

  taken : serial.taken_in (all es m) m.sci ≡ as_sent fs
  taken =
      hears (all es m) m.sci 0 is_on stays
      ∙ go m.sci.receiver.framer (sampled_at (sample_of m) m.sci.prescaler (serial.rxd_in (all es m))) h.searches samples_are
      ∙ three_heard first.u (bits_in m) 0 m.sci.receiver.last1 m.sci.receiver.last2 m.sci.receiver.last3
      (sampled_at (sample_of m) first.p' (line fs)) three
      ∙ clocks_heard.words (sample_of m) first.p' (bits_in m) fs first.small h.fair
    where
      go : (f : Framer) (xs : List Bool) → f ≡ searching → xs ≡ replicate first.u true ++ sampled_at (sample_of m) first.p' (line fs) →
          frames (ended_in (bits_in m) 0 m.sci.receiver.last1 m.sci.receiver.last2 m.sci.receiver.last3 f xs)
          ≡ frames (ended_in (bits_in m) 0 m.sci.receiver.last1 m.sci.receiver.last2 m.sci.receiver.last3 searching
          (replicate first.u true ++ sampled_at (sample_of m) first.p' (line fs)))
      go f xs e₁ e₂ = rw (e₁, e₂)

  come_or_lost : CameOrLost (log es m) (words_sent fs)
  come_or_lost =
      subst (λ (l : List Mark). CameOrLost l (words_sent fs)) (sym (all_log es m))
      (subst (CameOrLost (marks.log (all es m) m.sci))
      (ap nine taken ∙ nine_sent (sample_of m) (M m.sci.sccr1) fs h.fair)
      (all_ends (all es m) m.sci stays))

  spaced : SpacedBy (earliest (bits_in m)) es m
  spaced =
      subst
      (SpacedFrom (earliest (bits_in m)) (bits_in m) m.sci.receiver.last1 m.sci.receiver.last2 m.sci.receiver.last3 m.sci.receiver.framer none)
      (sym (ap samples_of (all_ops es m) ∙ all_samples (all es m) m.sci is_on stays ∙ samples_are))
      (subst
      (λ (f : Framer). SpacedFrom (earliest (bits_in m)) (bits_in m) m.sci.receiver.last1 m.sci.receiver.last2 m.sci.receiver.last3 f none
      (replicate first.u true ++ sampled_at (sample_of m) first.p' (line fs)))
      (sym h.searches)
      (three_spaced first.u (earliest (bits_in m)) (bits_in m) m.sci.receiver.last1 m.sci.receiver.last2 m.sci.receiver.last3
      (sampled_at (sample_of m) first.p' (line fs)) three
      (none_spaced (earliest (bits_in m)) (bits_in m) 0 true true true searching (sampled_at (sample_of m) first.p' (line fs))
      (clocks_heard.apart (sample_of m) first.p' (bits_in m) fs first.small h.fair))))

  -- Served in time, each word comes and no frame is lost.
  pub words_come : waiting m ≡ false → InTime (earliest (bits_in m) * sample_of m) es m 0 → (words_came (log es m) ≡ words_sent fs) × (lost_in (log es m) ≡ 0)
  words_come clear t =
      let none : lost_in (log es m) ≡ 0 = deadline (earliest (bits_in m)) past es h.on clear (stays_on es m h.stays) spaced t in
      (all_came (log es m) (words_sent fs) come_or_lost none, none)

  -- With right parity no flag rises but OR.
  pub no_flag : RightParity m.sci.sccr1 fs → Undamaged m.sci → StaysUndamaged es m
  no_flag p u =
      all_always es m u
      (goes_on (all es m) m.sci is_on stays (subst (AllGood m.sci.sccr1) (sym taken) (good_sent m.sci.sccr1 fs p)) u)
