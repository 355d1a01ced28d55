-- Steps of the serial half: a word that waits is as old as the samples and clocks since it came. Assumes nothing.
use mathlib.Core.Path.{◌≡◌, refl, ap, sym, subst, ◌∙◌}
use mathlib.Core.Bool.{Bool, true, false, cond, not, ◌&&◌, true≢false, false≢true}
use mathlib.Core.List.{List, [], ◌∷◌, ◌++◌}
use mathlib.Core.Option.{Option, none, some}
use Prim.Native.Nat.{ℕ, suc, ◌+◌, ◌*◌, ◌%◌, ◌≤◌, ◌<◌}
use native.Mathlib.Omega.{arith}
use native.Mathlib.Nat.{mul-le-mul_right}
use Rattle.sci.specs.model.Flags.{OR}
use Rattle.sci.specs.model.Status.{has}
use Rattle.sci.specs.model.Control.{SCBR, RE}
use Rattle.sci.specs.model.Framer.{ends}
use Rattle.sci.specs.model.Receiver.{full, received, receiver_after}
use Rattle.sci.specs.claims.Line.{Op, sample, read, delivers}
use Rattle.sci.specs.model.Serial.{due, clocked, counted}
use Rattle.sci.specs.claims.History.{Step, reset, clock, reads, writesSccr0, writesSccr1, writesScdr, step, receiving, sampling, step_ops, ops}
use Rattle.sci.specs.claims.Overrun.{Mark, frame_lost, word_came, sample_marks, look_marks, delivery_marks, step_marks, log}
use Rattle.sci.specs.declared.serial.Sci.{Sci}
use Rattle.sci.proofs.Sampling.{re_active}
use Rattle.sci.proofs.Reachable.{turned, clock_turned}
use Rattle.claims_polling.specs.Spacing.{samples_of}
use Rattle.claims_polling.specs.Rule.{lost_in}
use Rattle.claims_polling.proofs.Timed.{rate, width}
use Rattle.claims_deadlines.specs.Deadline.{FarEnough, SpacedFrom}
use Rattle.claims_deadlines.specs.Deadline as spec
use Rattle.claims_deadlines.proofs.Left.{Left, left}
use Rattle.claims_deadlines.proofs.Aging.{aged, Below, InSteps, KeepsSteps}
use Rattle.claims_deadlines.proofs.Sampled.{due_prescaler, t, o, heard, taken_ends, lost_full, lost_taken, full_stays, none_comes}

-- A word that waits came at the last end of a frame.
abbrev Old : Option ℕ → ℕ → Sci → Type 0
Old last k s = full s.status ≡ true → (r : ℕ) × (last ≡ some r) × (r * rate s + s.prescaler ≤ k)

record Stands (d limit : ℕ) (xs : List Bool) (last : Option ℕ) (k : ℕ) (s : Sci) : Type 0 where
  on : RE s.sccr1 ≡ true
  small : s.sccr0 ≡ SCBR s.sccr0
  far : limit ≤ d * rate s
  spaced : SpacedFrom d (width s) s.receiver.last1 s.receiver.last2 s.receiver.last3 s.receiver.framer last xs
  old : Old last k s

-- ---- an access

left_stands : (d limit : ℕ) (xs : List Bool) (last : Option ℕ) (k : ℕ) (s r : Sci) → RE r.sccr1 ≡ true → Left s r →
    Stands d limit xs last k s → Stands d limit xs last k r
left_stands d limit xs last k s r on l h =
    record {
      on = on;
      small = l.sccr0 ∙ h.small ∙ ap SCBR (sym l.sccr0);
      far = rw l.sccr0 h.far;
      spaced = rw (l.width, l.last1, l.last2, l.last3, l.framer) h.spaced;
      old = λ e. let o = h.old (l.waits e) in (o.0, o.1, rw (l.sccr0, l.prescaler) o.2);
    }

-- ---- a clock

module _ (s : Sci) (x : Bool) (on : RE s.sccr1 ≡ true) where
  clock_is : (d : Bool) → due s ≡ d → clocked s x ≡ turned true d true s x
  clock_is d e = clock_turned s x ∙ (λ j. turned (re_active s on j) (e j) (on j) s x)

  sampling_is : (d : Bool) → due s ≡ d → sampling s ≡ d
  sampling_is true e = λ j. re_active s on j && e j && on j
  sampling_is false e = λ j. re_active s on j && e j && on j

-- A frame that ended with a word waiting would find it too old.
too_soon : (d limit P p k i : ℕ) → d ≤ suc i → i * P + p ≤ k → suc k < limit → limit ≤ d * P → P ≤ p + 1 → ⊥
too_soon d limit P p k i far old below within due = omega (arith, mul-le-mul_right P far)

module _ (s : Sci) (x : Bool) (d limit : ℕ) (xs : List Bool) (last : Option ℕ) (k : ℕ) (h : Stands d limit (x ∷ xs) last k s)
    (e : due s ≡ true) (b : cond (full s.status && full (heard s x).status) (suc k) 0 < limit) where
  none_ends : full s.status ≡ true → ends s.receiver.framer ≡ false
  unfolding SpacedFrom
  none_ends f = go (ends s.receiver.framer) refl
    where
      go : (over : Bool) → ends s.receiver.framer ≡ over → over ≡ false
      go true z =
          let i = h.old f in
          absurd (too_soon d limit (rate s) s.prescaler k i.0 (subst (FarEnough d) i.1 (h.spaced.0 z)) i.2
          (rw (f, full_stays s x f) at b) h.far (due_prescaler s e))
      go false z = refl

  none_lost_here : (o s x).lost ≡ false
  none_lost_here = go (o s x).lost refl
    where
      go : (b : Bool) → (o s x).lost ≡ b → b ≡ false
      go true z =
          absurd (true≢false (sym (taken_ends s x (lost_taken s x z)) ∙ none_ends (lost_full s x z)))
      go false z = refl

  abbrev next : ℕ
  next = cond (full s.status && full (heard s x).status) (suc k) 0

  old_after : (over : Bool) → ends s.receiver.framer ≡ over → Old (spec.since_end over last) next (heard s x)
  old_after true z = λ _. (0, refl, omega arith)
  old_after false z = λ g.
      let f : full s.status ≡ true = none_comes s x z g in
      let i = h.old f in
      let c : spec.since_end false last ≡ some (suc i.0) = ap (spec.since_end false) i.1 in
      (suc i.0, c, rw (f, g) (omega (arith, i.2, due_prescaler s e)))

  sample_stands : Stands d limit xs (spec.since_end (ends s.receiver.framer) last) next (heard s x)
  unfolding SpacedFrom received receiver_after
  sample_stands =
      record {
        on = h.on;
        small = h.small;
        far = h.far;
        spaced = h.spaced.1;
        old = old_after (ends s.receiver.framer) refl;
      }

count_stands : (s : Sci) (x : Bool) (d limit : ℕ) (xs : List Bool) (last : Option ℕ) (k : ℕ) → Stands d limit xs last k s →
    Stands d limit xs last (cond (full s.status && full s.status) (suc k) 0) (counted s)
count_stands s x d limit xs last k h =
    record {
      on = h.on;
      small = h.small;
      far = h.far;
      spaced = h.spaced;
      old = λ f. let i = h.old f in (i.0, i.1, rw f (omega (arith, i.2)));
    }

-- Nothing is lost.
unlost : (lost taken raises : Bool) (w : ℕ) (h : List Mark) → lost ≡ false →
    lost_in (cond lost (frame_lost raises ∷ []) (cond taken (word_came w ∷ []) []) ++ h) ≡ lost_in h
unlost true taken raises w h e = absurd (true≢false e)
unlost false true raises w h e = refl
unlost false false raises w h e = refl

-- What a step leaves.
record Went (d limit : ℕ) (xs : List Bool) (k : ℕ) (e : Step) (s : Sci) : Type 0 where
  last : Option ℕ
  stands : Stands d limit xs last (aged e s k) (step e s)
  kept : (h : List Mark) → lost_in (step_marks e s ++ h) ≡ lost_in h

-- By whether a sample is due.
record Turned (d limit : ℕ) (xs : List Bool) (k : ℕ) (due : Bool) (s : Sci) (x : Bool) : Type 0 where
  last : Option ℕ
  stands : Stands d limit xs last (cond (full s.status && full (turned true due true s x).status) (suc k) 0) (turned true due true s x)
  kept : (h : List Mark) → lost_in (cond due (sample_marks s (t s x) x) [] ++ h) ≡ lost_in h

turn : (z : Bool) (s : Sci) (x : Bool) (d limit : ℕ) (os : List Op) (last : Option ℕ) (k : ℕ) → due s ≡ z →
    Stands d limit (samples_of (cond z (sample x ∷ []) [] ++ os)) last k s →
    cond (full s.status && full (turned true z true s x).status) (suc k) 0 < limit → Turned d limit (samples_of os) k z s x
turn true s x d limit os last k e h b =
    record {
      last = spec.since_end (ends s.receiver.framer) last;
      stands = sample_stands s x d limit (samples_of os) last k h e b;
      kept = λ g.
          unlost (o s x).lost (o s x).taken (not (has (t s x) OR)) (s.receiver.framer.shift % 512) g
          (none_lost_here s x d limit (samples_of os) last k h e b);
    }
turn false s x d limit os last k e h b =
    record { last = last; stands = count_stands s x d limit (samples_of os) last k h; kept = λ g. refl }

clock_went : (s : Sci) (x : Bool) (d limit : ℕ) (os : List Op) (last : Option ℕ) (k : ℕ) → Stands d limit (samples_of (step_ops (clock x) s ++ os)) last k s →
    Below limit (clock x) s k → Went d limit (samples_of os) k (clock x) s
unfolding step
clock_went s x d limit os last k h b =
    let z : Bool = due s in
    let c : clocked s x ≡ turned true z true s x = clock_is s x h.on z refl in
    let p : sampling s ≡ z = sampling_is s x h.on z refl in
    let v : Turned d limit (samples_of os) k z s x =
    turn z s x d limit os last k refl (subst (λ (y : Bool). Stands d limit (samples_of (cond y (sample x ∷ []) [] ++ os)) last k s) p h)
    (subst (λ (u : Sci). cond (full s.status && full u.status) (suc k) 0 < limit) c b) in
    record {
      last = v.last;
      stands =
          subst (λ (u : Sci). Stands d limit (samples_of os) v.last (cond (full s.status && full u.status) (suc k) 0) u) (sym c) v.stands;
      kept = λ g. subst (λ (y : Bool). lost_in (cond y (sample_marks s (t s x) x) [] ++ g) ≡ lost_in g) (sym p) (v.kept g);
    }

pub lost_read : (scsr : Bool) (w : Option ℕ) (h : List Mark) → lost_in ((look_marks scsr ++ delivery_marks w) ++ h) ≡ lost_in h
lost_read true (some w) h = refl
lost_read true none h = refl
lost_read false (some w) h = refl
lost_read false none h = refl

-- ---- any step

reset_off : (s : Sci) → RE (step reset s).sccr1 ≡ true → ⊥
unfolding step
reset_off s e = false≢true e

went : (e : Step) (s : Sci) (d limit : ℕ) (os : List Op) (last : Option ℕ) (k : ℕ) → RE (step e s).sccr1 ≡ true →
    Stands d limit (samples_of (step_ops e s ++ os)) last k s → Below limit e s k → Went d limit (samples_of os) k e s
went reset s d limit os last k on h b = absurd (reset_off s on)
went (clock x) s d limit os last k on h b = clock_went s x d limit os last k h b
went (reads scsr scdr) s d limit os last k on h b =
    record {
      last = last;
      stands = left_stands d limit (samples_of os) last k s (step (reads scsr scdr) s) on (left (reads scsr scdr) s tt h.on h.small on) h;
      kept = λ g. lost_read scsr (delivers (read scsr scdr) (receiving s)) g;
    }
went (writesSccr0 v upper lower) s d limit os last k on h b =
    record {
      last = last;
      stands =
          left_stands d limit (samples_of os) last k s (step (writesSccr0 v upper lower) s) on (left (writesSccr0 v upper lower) s tt h.on h.small on) h;
      kept = λ g. refl;
    }
went (writesSccr1 v upper lower) s d limit os last k on h b =
    record {
      last = last;
      stands =
          left_stands d limit (samples_of os) last k s (step (writesSccr1 v upper lower) s) on (left (writesSccr1 v upper lower) s tt h.on h.small on) h;
      kept = λ g. refl;
    }
went (writesScdr v upper lower) s d limit os last k on h b =
    record {
      last = last;
      stands =
          left_stands d limit (samples_of os) last k s (step (writesScdr v upper lower) s) on (left (writesScdr v upper lower) s tt h.on h.small on) h;
      kept = λ g. refl;
    }

all_went : (es : List Step) (s : Sci) (d limit : ℕ) (last : Option ℕ) (k : ℕ) → KeepsSteps es s → Stands d limit (samples_of (ops es s)) last k s →
    InSteps limit es s k → lost_in (log es s) ≡ 0
unfolding ops log
all_went [] s d limit last k on h b = refl
all_went (e ∷ es) s d limit last k on h b =
    let w : Went d limit (samples_of (ops es (step e s))) k e s = went e s d limit (ops es (step e s)) last k on.0 h b.0 in
    w.kept (log es (step e s)) ∙ all_went es (step e s) d limit w.last (aged e s k) on.1 w.stands b.1

-- From nothing waiting on.
pub none_lost : (es : List Step) (s : Sci) (d k : ℕ) → RE s.sccr1 ≡ true → s.sccr0 ≡ SCBR s.sccr0 → full s.status ≡ false → KeepsSteps es s →
    SpacedFrom d (width s) s.receiver.last1 s.receiver.last2 s.receiver.last3 s.receiver.framer none (samples_of (ops es s)) →
    InSteps (d * rate s) es s k → lost_in (log es s) ≡ 0
none_lost es s d k on small clear keeps spaced b =
    all_went es s d (d * rate s) none k keeps
    (record { on = on; small = small; far = omega arith; spaced = spaced; old = λ f. absurd (false≢true (sym clear ∙ f)) }) b
