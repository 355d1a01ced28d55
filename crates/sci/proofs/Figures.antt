-- The laws of the noise figure: what it makes of NF and of no other flag, and what becomes of the figure beside SCDR.
use Prim.Native.Nat.{ℕ, zero, suc, ◌+◌}
use mathlib.Core.Bool.{Bool, true, false, cond, not, ◌&&◌, ◌||◌, and-true, and-false, or-false, false≢true}
use mathlib.Core.List.{List, [], ◌∷◌}
use mathlib.Core.Path.{◌≡◌, refl, ap, sym, ◌∙◌}
use native.Mathlib.Omega.{arith}
use lib.Dec.{eqb, ltb}
use borrow.Author.Tests.{lt-ltb, not-true}
use lib.ListN.{drop}
use Rattle.steps.specs.Bits.{digit, merge}
use Rattle.sci.specs.model.Flags.{PF, FE, NF, OR, IDLE, RAF, RDRF}
use Rattle.sci.specs.claims.Members.{member}
use Rattle.sci.specs.model.Status.{has, raise, raise_if}
use Rattle.sci.specs.model.Control.{RE, PE, PT, sccr0_bits}
use Rattle.sci.specs.model.Bits.{disagreed, parity_bit}
use Rattle.sci.specs.model.Framer.{searching, frame_of, start_bit, data_bit, stop_bit, fixed, adjusts, framed}
use Rattle.sci.specs.model.Receiver.{outcome, raised, entered, status_after, receiver_after, received}
use Rattle.sci.specs.model.Transmitter.{sent}
use Rattle.sci.specs.model.Parts.{after_sent}
use Rattle.sci.specs.model.Serial.{active, due, heard, sampled, prescaled, clocked, sccr1_word, stopped, with_sccr1, data_written, sccr0_set, wrote_sccr0, wrote_sccr1, sccr0_guarded, sccr1_guarded}
use Rattle.sci.specs.claims.History.{Step, reset, clock, reads, writesSccr0, writesSccr1, writesScdr, step}
use Rattle.sci.specs.claims.Figure.{rt, start_ones, disagreements, figure, any_mixed, noisy, enters, with_sum, figure_after, noisiest, Figures}
use Rattle.sci.specs.claims.Levels.{Unmoved}
use Rattle.sci.specs.declared.status.Status.{Status}
use Rattle.sci.specs.declared.framer.Framer.{Framer}
use Rattle.sci.specs.declared.framer.Frame.{Frame}
use Rattle.sci.specs.declared.receiver.Receiver.{Receiver}
use Rattle.sci.specs.declared.receiver.Outcome.{Outcome}
use Rattle.sci.specs.declared.serial.Sci.{Sci}
use Rattle.sci.proofs.Membership.{and_left, and_right}
use Rattle.sci.proofs.Flagged.{is_set, has_flag, set_raise, set_raiseIf, set_fallIf, raise_keeps}
use Rattle.sci.proofs.Samples.{status_set}
use Rattle.sci.proofs.Figure.{frame_figure}

-- NF with a frame that enters.
nf_entered : (b : Bool) (s : Status) (f : Frame) (bad : Bool) → is_set 2 (entered b s f bad) ≡ is_set 2 s || (b && ltb 0 f.noise)
unfolding entered raised member
nf_entered true s f bad =
    raise_keeps 2 bad _ PF refl ∙ raise_keeps 2 (not f.stop) _ FE refl ∙ set_raiseIf 2 (ltb 0 f.noise) (raise s RDRF) NF
    ∙ ap (λ (b : Bool). b || (ltb 0 f.noise && true)) (set_raise 2 s RDRF ∙ or-false (is_set 2 s))
    ∙ ap (λ (b : Bool). is_set 2 s || b) (and-true (ltb 0 f.noise))
nf_entered false s f bad = sym (or-false (is_set 2 s))

rises : (r : Receiver) (s : Status) (sccr1 : ℕ) (x : Bool) →
    has (received r s sccr1 x).status NF ≡ has s NF || (enters (outcome r s sccr1 x) && ltb 0 (frame_of r.framer x).noise)
unfolding received member
rises r s sccr1 x =
    let o : Outcome = outcome r s sccr1 x in
    let f : Frame = frame_of r.framer x in
    let bad : Bool = PE sccr1 && parity_bit (PT sccr1) r.framer.shift in
    let idles : Bool = o.reached && not r.asleep && r.since in
    has_flag 2 (status_after s o f bad idles)
    ∙ status_set 2 s o f bad idles refl (and-false idles)
    ∙ nf_entered (enters o) (raise_if o.lost s OR) f bad
    ∙ ap (λ (b : Bool). b || (enters o && ltb 0 f.noise)) (raise_keeps 2 o.lost s OR refl ∙ sym (has_flag 2 s))

-- Any other flag.
module _ (k : ℕ) (other : member k NF ≡ false) where
  other_entered : (b : Bool) (s : Status) (f g : Frame) (bad : Bool) → f.stop ≡ g.stop →
      is_set k (entered b s f bad) ≡ is_set k (entered b s g bad)
  unfolding entered raised
  other_entered true s f g bad e =
      rw (set_raiseIf k bad, set_raiseIf k (not f.stop), raise_keeps k (ltb 0 f.noise) (raise s RDRF) NF other)
      (rw (set_raiseIf k bad, set_raiseIf k (not g.stop), raise_keeps k (ltb 0 g.noise) (raise s RDRF) NF other, e))
  other_entered false s f g bad e = refl

  other_after : (s : Status) (o : Outcome) (f g : Frame) (bad idles : Bool) → f.stop ≡ g.stop →
      is_set k (status_after s o f bad idles) ≡ is_set k (status_after s o g bad idles)
  unfolding status_after
  other_after s o f g bad idles e =
      at f ∙ ap u (other_entered (enters o) (raise_if o.lost s OR) f g bad e) ∙ sym (at g)
    where
      u : Bool → Bool
      u c = ((c || (o.begun && member k RAF)) && not ((o.abandoned || o.reached) && member k RAF)) || (idles && member k IDLE)

      at : (f : Frame) → is_set k (status_after s o f bad idles) ≡ u (is_set k (entered (enters o) (raise_if o.lost s OR) f bad))
      at f =
          set_raiseIf k idles _ IDLE
          ∙ ap (λ (c : Bool). c || (idles && member k IDLE))
          (set_fallIf k (o.abandoned || o.reached) _ RAF
          ∙ ap (λ (c : Bool). c && not ((o.abandoned || o.reached) && member k RAF)) (set_raiseIf k o.begun _ RAF))

  others : (r : Receiver) (s : Status) (sccr1 : ℕ) (x : Bool) (sum : ℕ) →
      is_set k (received (with_sum r sum) s sccr1 x).status ≡ is_set k (received r s sccr1 x).status
  unfolding received outcome
  others r s sccr1 x sum =
      other_after s (outcome r s sccr1 x) (frame_of (with_sum r sum).framer x) (frame_of r.framer x) _ _ refl

-- A sum is above 0 if one of its parts is.
above : (a b : ℕ) → ltb 0 (a + b) ≡ ltb 0 a || ltb 0 b
above zero b = let e : 0 + b ≡ b = omega arith in ap (ltb 0) e
above (suc a) b = lt-ltb 0 (suc a + b) (omega arith) ∙ rw (lt-ltb 0 (suc a) (omega arith))

mixed_disagrees : (a b c : Bool) → ltb 0 (disagreed a b c) ≡ (a || b || c) && not (a && b && c)
mixed_disagrees true true true = refl
mixed_disagrees true true false = refl
mixed_disagrees true false true = refl
mixed_disagrees true false false = refl
mixed_disagrees false true true = refl
mixed_disagrees false true false = refl
mixed_disagrees false false true = refl
mixed_disagrees false false false = refl

any_mixed_holds : (n : ℕ) (xs : List Bool) → ltb 0 (disagreements n xs) ≡ any_mixed n xs
unfolding disagreements any_mixed
any_mixed_holds zero xs = mixed_disagrees (rt 8 xs) (rt 9 xs) (rt 10 xs)
any_mixed_holds (suc n) xs =
    above (disagreed (rt 8 xs) (rt 9 xs) (rt 10 xs)) (disagreements n (drop 16 xs))
    ∙ rw (mixed_disagrees (rt 8 xs) (rt 9 xs) (rt 10 xs), any_mixed_holds n (drop 16 xs))

start_any : (a b c d e f : Bool) → ltb 0 (digit a + digit b + digit c + digit d + digit e + digit f) ≡ (a || b || c || d || e || f)
start_any true b c d e f = lt-ltb 0 (1 + digit b + digit c + digit d + digit e + digit f) (omega arith)
start_any false true c d e f = lt-ltb 0 (0 + 1 + digit c + digit d + digit e + digit f) (omega arith)
start_any false false true d e f = lt-ltb 0 (0 + 0 + 1 + digit d + digit e + digit f) (omega arith)
start_any false false false true e f = lt-ltb 0 (0 + 0 + 0 + 1 + digit e + digit f) (omega arith)
start_any false false false false true f = lt-ltb 0 (0 + 0 + 0 + 0 + 1 + digit f) (omega arith)
start_any false false false false false true = refl
start_any false false false false false false = refl

as_before : (n : ℕ) (xs : List Bool) → ltb 0 (figure n xs) ≡ noisy n xs
as_before n xs =
    above (start_ones xs) (disagreements n (drop 16 xs))
    ∙ rw (start_any (rt 3 xs) (rt 5 xs) (rt 7 xs) (rt 8 xs) (rt 9 xs) (rt 10 xs), any_mixed_holds n (drop 16 xs))

-- The figure beside SCDR.
lost : (r : Receiver) (s : Status) (sccr1 : ℕ) (x : Bool) → (outcome r s sccr1 x).lost ≡ true →
    (received r s sccr1 x).receiver.noise ≡ r.noise
unfolding received receiver_after
lost r s sccr1 x e = go (outcome r s sccr1 x).taken (outcome r s sccr1 x).lost e
  where
    go : (taken lost : Bool) → lost ≡ true → cond (taken && not lost) (frame_of r.framer x).noise r.noise ≡ r.noise
    go true true e = refl
    go true false e = absurd (false≢true e)
    go false lost e = refl

abbrev entering : Sci → Bool → Bool
entering s x = enters (outcome s.receiver (sent s.transmitter s.status s.sccr1).status s.sccr1 x)

after_sample : (s : Sci) (x : Bool) →
    (sampled s x).receiver.noise
    ≡ cond (RE s.sccr1 && entering s x) (frame_of s.receiver.framer x).noise s.receiver.noise
unfolding sampled received receiver_after
after_sample s x = go (RE s.sccr1)
  where
    go : (re : Bool) →
        (heard re (after_sent s (sent s.transmitter s.status s.sccr1)) x).receiver.noise
        ≡ cond (re && entering s x) (frame_of s.receiver.framer x).noise s.receiver.noise
    go true = refl
    go false = refl

after_clock : (s : Sci) (x : Bool) → (clocked s x).receiver.noise ≡ figure_after (clock x) s
unfolding clocked
after_clock s x = go (active s) (due s)
  where
    go : (a d : Bool) →
        (cond a (prescaled d s x) s).receiver.noise
        ≡ cond ((a && d && RE s.sccr1) && entering s x) (frame_of s.receiver.framer x).noise s.receiver.noise
    go true true = after_sample s x
    go true false = refl
    go false d = refl

after_sccr0 : (s : Sci) (v : ℕ) (upper lower : Bool) → (wrote_sccr0 s v upper lower).receiver.noise ≡ s.receiver.noise
unfolding wrote_sccr0
after_sccr0 s v upper lower =
    let new : ℕ = sccr0_bits (merge s.sccr0 v upper lower) in
    go (eqb new s.sccr0) new
  where
    go : (same : Bool) (v : ℕ) → (sccr0_set same s v).receiver.noise ≡ s.receiver.noise
    go true v = refl
    go false v = refl

after_sccr1 : (s : Sci) (v : ℕ) (upper lower : Bool) → (wrote_sccr1 s v upper lower).receiver.noise ≡ s.receiver.noise
unfolding wrote_sccr1
after_sccr1 s v upper lower =
    let new : ℕ = merge (sccr1_word s) v upper lower in
    go (RE new) new
  where
    go : (re : Bool) (v : ℕ) → (stopped re (with_sccr1 s v)).receiver.noise ≡ s.receiver.noise
    go true v = refl
    go false v = refl

kept_if : (b : Bool) (s t : Sci) → t.receiver.noise ≡ s.receiver.noise → (cond b s t).receiver.noise ≡ s.receiver.noise
kept_if true s t e = refl
kept_if false s t e = e

after_data : (lower : Bool) (s : Sci) (v : ℕ) (upper : Bool) → (data_written lower s v upper).receiver.noise ≡ s.receiver.noise
after_data true s v upper = refl
after_data false s v upper = refl

after : (e : Step) (s : Sci) → (step e s).receiver.noise ≡ figure_after e s
unfolding step
after reset s = refl
after (clock x) s = after_clock s x
after (reads scsr scdr) s = refl
after (writesSccr0 v upper lower) s =
    kept_if (sccr0_guarded s v upper lower) s (wrote_sccr0 s v upper lower) (after_sccr0 s v upper lower)
after (writesSccr1 v upper lower) s =
    kept_if (sccr1_guarded s v upper lower) s (wrote_sccr1 s v upper lower) (after_sccr1 s v upper lower)
after (writesScdr v upper lower) s = after_data lower s v upper

-- No sample makes an adjustment, as one test.
still : ℕ → Bool → Bool → Bool → Framer → List Bool → Bool
still n a b c f [] = true
still n a b c f (x ∷ xs) = not (adjusts n f (a && b && c) x) && still n x a b (framed n f (a && b && c) x) xs

unmoved_by : (n : ℕ) (a b c : Bool) (f : Framer) (xs : List Bool) → still n a b c f xs ≡ true → Unmoved n a b c f xs
unfolding still Unmoved
unmoved_by n a b c f [] h = tt
unmoved_by n a b c f (x ∷ xs) h =
    let q : Bool = adjusts n f (a && b && c) x in (
      not-true q (and_left (not q) _ h),
      unmoved_by n x a b (framed n f (a && b && c) x) xs (and_right (not q) _ h),
    )

noisiest_unmoved : Unmoved 9 true true true searching (noisiest 9)
unfolding still framed fixed start_bit data_bit stop_bit
noisiest_unmoved = unmoved_by 9 true true true searching (noisiest 9) refl

pub figures : Figures
unfolding disagreements
figures =
    record {
      frame = frame_figure;
      standing = record { whole = refl; begins = refl; stands = refl; unmoved = noisiest_unmoved };
      largest = refl;
      rises = rises;
      as_before = as_before;
      others = λ r s sccr1 x sum k e. others k e r s sccr1 x sum;
      cleared = refl;
      lost = lost;
      after = after;
    }
