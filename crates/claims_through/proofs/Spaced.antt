-- The samples that reach a receiver are those of RXD's levels; and where the ends of frames lie apart, they are spaced. Assumes nothing.
use mathlib.Core.Path.{◌≡◌, refl, ap, ap₂, sym, subst, ◌∙◌}
use mathlib.Core.Bool.{Bool, true, false, cond, ◌&&◌, true≢false}
use mathlib.Core.List.{List, [], ◌∷◌, ◌++◌}
use mathlib.Core.Option.{none, some}
use Prim.Native.Nat.{ℕ, suc, ◌+◌, ◌*◌, ◌≤◌, ◌<◌, min}
use native.Mathlib.Omega.{arith}
use lib.Dec.{leb}
use borrow.Author.Tests.{leb-false}
use Rattle.sci.specs.model.Control.{SCBR}
use Rattle.sci.specs.model.Framer.{ends, frame_of, framed}
use Rattle.sci.specs.claims.Line.{sample}
use Rattle.sci.specs.model.Serial.{due, clocked}
use Rattle.sci.specs.claims.History.{Step, reset, clock, reads, writesSccr0, writesSccr1, writesScdr, step, sampling, ops}
use Rattle.sci.specs.declared.framer.Framer.{Framer}
use Rattle.sci.specs.declared.serial.Sci.{Sci}
use Rattle.sci.proofs.Sampling.{re_active}
use Rattle.sci.proofs.Reachable.{turned}
use Rattle.claims_polling.specs.Spacing.{samples_of}
use Rattle.claims_deadlines.specs.Deadline.{FarEnough, SpacedFrom}
use Rattle.claims_deadlines.specs.Deadline as spec
use Rattle.claims_senders.specs.Heard.{Ended, ended_in, samples, Apart}
use Rattle.claims_senders.specs.Clocks.{sampled_at}
use Rattle.claims_senders.proofs.Receiving.{rxd_in, On, StaysAwake}
use Rattle.claims_senders.proofs.Steady.{Same, due_now, turns, on_step, same_write0, same_write1, same_read, same_scdr}

-- ---- samples

abbrev sampled_from : Sci → List Bool → List Bool
sampled_from s xs = sampled_at (2 * SCBR s.sccr0) s.prescaler xs

abbrev Samples : List Step → Type 0
Samples es = (s : Sci) → On s → StaysAwake es s → samples_of (ops es s) ≡ sampled_from s (rxd_in es)

same_sampled : (s r : Sci) (xs : List Bool) → Same s r → sampled_from r xs ≡ sampled_from s xs
same_sampled s r xs h = ap₂ (λ (v p : ℕ). sampled_at (2 * SCBR v) p xs) h.sccr0 h.prescaler

quiet : (es : List Step) (s r : Sci) → Samples es → On r → Same s r → StaysAwake es r → samples_of (ops es r) ≡ sampled_from s (rxd_in es)
quiet es s r ih o h stays = ih r o stays ∙ same_sampled s r (rxd_in es) h

module _ (x : Bool) (es : List Step) (s : Sci) (ih : Samples es) (o : On s) where
  sampling_now : (d : Bool) → due s ≡ d → sampling s ≡ d
  sampling_now true e = λ j. re_active s o.on j && e j && o.on j
  sampling_now false e = λ j. re_active s o.on j && e j && o.on j

  clock_samples : (d : Bool) → leb (2 * SCBR s.sccr0) (s.prescaler + 1) ≡ d → On (clocked s x) → StaysAwake es (clocked s x) →
      samples_of (cond (sampling s) (sample x ∷ []) [] ++ ops es (clocked s x)) ≡ sampled_from s (x ∷ rxd_in es)
  unfolding sampled_at
  clock_samples true e on stays =
      let t : clocked s x ≡ turned true true true s x = turns x s o true (due_now x s o true e) in
      ap₂ (λ (b : Bool) (r : Sci). samples_of (cond b (sample x ∷ []) [] ++ ops es r)) (sampling_now true (due_now x s o true e)) t
      ∙ rw e (ap (λ (l : List Bool). x ∷ l) (ih (turned true true true s x) (subst On t on) (subst (StaysAwake es) t stays)))
  clock_samples false e on stays =
      let t : clocked s x ≡ turned true false true s x = turns x s o false (due_now x s o false e) in
      let l : s.prescaler + 1 < 2 * SCBR s.sccr0 = leb-false (2 * SCBR s.sccr0) (s.prescaler + 1) e in
      let z : min 65535 (s.prescaler + 1) ≡ s.prescaler + 1 = omega arith in
      ap₂ (λ (b : Bool) (r : Sci). samples_of (cond b (sample x ∷ []) [] ++ ops es r)) (sampling_now false (due_now x s o false e)) t
      ∙ rw e
      (ih (turned true false true s x) (subst On t on) (subst (StaysAwake es) t stays)
      ∙ ap (λ (v : ℕ). sampled_at (2 * SCBR s.sccr0) v (rxd_in es)) z)

one_step : (e : Step) (es : List Step) → Samples es → Samples (e ∷ es)
unfolding ops rxd_in StaysAwake step
one_step reset es ih s o h = absurd (true≢false h.0)
one_step (clock x) es ih s o h =
    clock_samples x es s ih o (leb (2 * SCBR s.sccr0) (s.prescaler + 1)) refl (on_step (clock x) s o h.0 h.1 h.2) h.3
one_step (reads scsr scdr) es ih s o h =
    quiet es s _ ih (on_step (reads scsr scdr) s o h.0 h.1 h.2) (same_read s scsr scdr) h.3
one_step (writesSccr0 v upper lower) es ih s o h =
    quiet es s _ ih (on_step (writesSccr0 v upper lower) s o h.0 h.1 h.2) (same_write0 s v upper lower o) h.3
one_step (writesSccr1 v upper lower) es ih s o h =
    quiet es s _ ih (on_step (writesSccr1 v upper lower) s o h.0 h.1 h.2) (same_write1 s v upper lower o h.1) h.3
one_step (writesScdr v upper lower) es ih s o h =
    quiet es s _ ih (on_step (writesScdr v upper lower) s o h.0 h.1 h.2) (same_scdr lower s v upper) h.3

pub all_samples : (es : List Step) → Samples es
unfolding ops rxd_in sampled_at
all_samples [] s o h = refl
all_samples (e ∷ es) s o h = one_step e es (all_samples es) s o h

-- ---- ends

abbrev Ends : ℕ → ℕ → Bool → Bool → Bool → Framer → List Bool → List ℕ
Ends n k a b c f xs = samples (ended_in n k a b c f xs)

-- What follows a sample x, by whether a frame ended with it.
abbrev Following : ℕ → ℕ → Bool → Bool → Bool → Framer → Bool → List Bool → Bool → List ℕ
Following n k a b c f x xs over =
    let after : List Ended = ended_in n (suc k) x a b (framed n f (a && b && c) x) xs in
    samples (cond over (record { sample = suc k; frame = frame_of f x } ∷ after) after)

-- After an end at the sample t, j samples ago.
some_spaced : (d n k t j : ℕ) (a b c : Bool) (f : Framer) (xs : List Bool) → k ≡ t + j → Apart d (t ∷ Ends n k a b c f xs) →
    SpacedFrom d n a b c f (some j) xs
unfolding SpacedFrom ended_in samples Apart
some_spaced d n k t j a b c f [] e h = tt
some_spaced d n k t j a b c f (x ∷ xs) e h =
    go (λ t j. some_spaced d n (suc k) t j x a b (framed n f (a && b && c) x) xs) (ends f) h
  where
    go : ((t j : ℕ) → suc k ≡ t + j → Apart d (t ∷ Ends n (suc k) x a b (framed n f (a && b && c) x) xs) →
        SpacedFrom d n x a b (framed n f (a && b && c) x) (some j) xs) →
        (over : Bool) → Apart d (t ∷ Following n k a b c f x xs over) →
        (over ≡ true → FarEnough d (some j)) × SpacedFrom d n x a b (framed n f (a && b && c) x) (spec.since_end over (some j)) xs
    go ih true h = let l : t + d ≤ suc k = h.0 in (λ _. omega (arith, l, e), ih (suc k) 0 (omega arith) h.1)
    go ih false h = (λ z. absurd (true≢false (sym z)), ih t (suc j) (omega (arith, e)) h)

pub none_spaced : (d n k : ℕ) (a b c : Bool) (f : Framer) (xs : List Bool) → Apart d (Ends n k a b c f xs) → SpacedFrom d n a b c f none xs
unfolding SpacedFrom ended_in samples
none_spaced d n k a b c f [] h = tt
none_spaced d n k a b c f (x ∷ xs) h = go (none_spaced d n (suc k) x a b (framed n f (a && b && c) x) xs) (ends f) h
  where
    go : (Apart d (Ends n (suc k) x a b (framed n f (a && b && c) x) xs) → SpacedFrom d n x a b (framed n f (a && b && c) x) none xs) →
        (over : Bool) → Apart d (Following n k a b c f x xs over) →
        (over ≡ true → FarEnough d none) × SpacedFrom d n x a b (framed n f (a && b && c) x) (spec.since_end over none) xs
    go ih true h = (λ _. tt, some_spaced d n (suc k) (suc k) 0 x a b (framed n f (a && b && c) x) xs (omega arith) h)
    go ih false h = (λ _. tt, ih h)
