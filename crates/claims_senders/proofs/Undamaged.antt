-- Frames without noise, with a stop bit and right parity raise no error flag but OR. Assumes nothing.
use mathlib.Core.Path.{◌≡◌, refl, ap, sym, subst, ◌∙◌}
use mathlib.Core.Bool.{Bool, true, false, cond, not, ◌&&◌, ◌||◌, and-false, true≢false, false≢true}
use mathlib.Core.List.{List, [], ◌∷◌, ◌++◌}
use Prim.Native.Nat.{ℕ, ◌+◌, ◌*◌, ◌/◌, ◌%◌, ◌^◌}
use native.Mathlib.Omega.{arith}
use lib.Dec.{eqb, leb, ltb}
use Rattle.steps.specs.Bits.{merge}
use Rattle.sci.specs.model.Bits.{parity_bit}
use Rattle.sci.specs.model.Flags.{NF, RAF, transmit_flags}
use Rattle.sci.specs.claims.Members.{member}
use Rattle.sci.specs.model.Status.{has}
use Rattle.sci.specs.model.Control.{SCBR, RE, PT, PE, M, bits_of, sccr0_bits, settings}
use Rattle.sci.specs.model.Framer.{ends, frame_of}
use Rattle.sci.specs.model.Receiver.{outcome, received, receiver_after}
use Rattle.sci.specs.model.Transmitter.{sent}
use Rattle.sci.specs.model.Serial.{clocked, sccr1_word, with_sccr0, with_sccr1, stopped, wrote_sccr0, wrote_sccr1, sccr0_guarded, sccr1_guarded, data_written}
use Rattle.sci.specs.claims.History.{Step, reset, clock, reads, writesSccr0, writesSccr1, writesScdr, step}
use Rattle.sci.specs.declared.framer.Frame.{Frame}
use Rattle.sci.specs.declared.status.Status.{Status}
use Rattle.sci.specs.declared.receiver.Outcome.{Outcome}
use Rattle.sci.specs.declared.serial.Sci.{Sci}
use Rattle.sci.proofs.Flagged.{is_set, has_flag, set_fall, fallSeen_clear}
use Rattle.sci.proofs.Frames.{by_cond}
use Rattle.sci.proofs.Membership.{and_left}
use Rattle.sci.proofs.Same.{Receives, set_at, same_sent}
use Rattle.sci.proofs.Stages.{read_clear}
use Rattle.sci.proofs.Rising.{fe_after, pf_after}
use Rattle.sci.proofs.Figures.{figures}
use Rattle.sci.proofs.Reachable.{turned, settings_stand}
use Rattle.claims_senders.specs.Fair.{SentFrame, line, FairFrames}
use Rattle.claims_senders.specs.Heard.{as_sent}
use Rattle.claims_senders.specs.Undamaged.{Undamaged, RightParity}
use Rattle.claims_senders.proofs.Receiving.{rxd_in, taken_at, taken_in, resets, On, StaysAwake, Ready}
use Rattle.claims_senders.proofs.Steady.{due_now, turns, takes_it, on_step}
use Rattle.claims_senders.proofs.Taking.{taken}

-- A frame that does no damage, with the settings of c.
pub record Good (c : ℕ) (f : Frame) : Type 0 where
  pub noise : f.noise ≡ 0
  pub stop : f.stop ≡ true
  pub parity : PE c && parity_bit (PT c) f.word ≡ false

unfoldable pub AllGood : ℕ → List Frame → Type 0
AllGood c [] = Unit {0}
AllGood c (f ∷ fs) = Good c f × AllGood c fs

good_front : (c : ℕ) (fs gs : List Frame) → AllGood c (fs ++ gs) → AllGood c fs
unfolding AllGood
good_front c [] gs h = tt
good_front c (f ∷ fs) gs h = (h.0, good_front c fs gs h.1)

good_back : (c : ℕ) (fs gs : List Frame) → AllGood c (fs ++ gs) → AllGood c gs
unfolding AllGood
good_back c [] gs h = h
good_back c (f ∷ fs) gs h = good_back c fs gs h.1

good_settings : (c d : ℕ) (fs : List Frame) → settings d ≡ settings c → AllGood c fs → AllGood d fs
unfolding AllGood
good_settings c d [] e h = tt
good_settings c d (f ∷ fs) e h =
    let p : d / 2 ^ 10 % 2 ≡ c / 2 ^ 10 % 2 = omega arith in
    let q : d / 2 ^ 11 % 2 ≡ c / 2 ^ 11 % 2 = omega arith in (
      record {
        noise = h.0.noise;
        stop = h.0.stop;
        parity = rw (p, q) h.0.parity;
      },
      good_settings c d fs e h.1,
    )

pub good_sent : (c : ℕ) (fs : List SentFrame) → RightParity c fs → AllGood c (as_sent fs)
unfolding AllGood as_sent RightParity
good_sent c [] h = tt
good_sent c (f ∷ fs) h = (record { noise = refl; stop = refl; parity = h.0 }, good_sent c fs h.1)

-- What is clear stays clear.
clear_from : (s r : Sci) → ((k : ℕ) → is_set k s.status ≡ false → is_set k r.status ≡ false) → r.receiver.noise ≡ s.receiver.noise →
    Undamaged s → Undamaged r
clear_from s r f e u =
    record {
      nf = has_flag 2 r.status ∙ f 2 (sym (has_flag 2 s.status) ∙ u.nf);
      fe = has_flag 1 r.status ∙ f 1 (sym (has_flag 1 s.status) ∙ u.fe);
      pf = has_flag 0 r.status ∙ f 0 (sym (has_flag 0 s.status) ∙ u.pf);
      figure = e ∙ u.figure;
    }

-- A sample, with which a frame may be taken.
module _ (s : Sci) (x : Bool) (u : Undamaged s) where
  abbrev st : Status
  st = (sent s.transmitter s.status s.sccr1).status

  abbrev o : Outcome
  o = outcome s.receiver st s.sccr1 x

  abbrev fr : Frame
  fr = frame_of s.receiver.framer x

  still : (k : ℕ) → Receives k → is_set k s.status ≡ false → is_set k st ≡ false
  still k r e = sym (set_at s.status st (same_sent s.transmitter s.status s.sccr1) k r) ∙ e

  not_raised : (a b c d : Bool) → a ≡ false → (b ≡ true → d ≡ false) → a || (b && not c && d) ≡ false
  not_raised a true c d e f = rw (e, f refl) (and-false (not c))
  not_raised a false c d e f = rw e

  clear_number : (v : ℕ) → v ≡ 0 → ltb 0 v ≡ false
  clear_number v e = rw e

  sampled_good : (o.taken ≡ true → Good s.sccr1 fr) → Undamaged (turned true true true s x)
  unfolding received receiver_after member
  sampled_good g =
      record {
        nf =
            figures.rises s.receiver st s.sccr1 x
            ∙ not_raised (has st NF) o.taken o.lost (ltb 0 fr.noise)
            (has_flag 2 st ∙ still 2 refl (sym (has_flag 2 s.status) ∙ u.nf)) (λ t. clear_number fr.noise (g t).noise);
        fe =
            has_flag 1 (turned true true true s x).status ∙ fe_after st o fr _ _
            ∙ not_raised (is_set 1 st) o.taken o.lost (not fr.stop)
            (still 1 refl (sym (has_flag 1 s.status) ∙ u.fe)) (λ t. ap not (g t).stop);
        pf =
            has_flag 0 (turned true true true s x).status ∙ pf_after st o fr _ _
            ∙ not_raised (is_set 0 st) o.taken o.lost _
            (still 0 refl (sym (has_flag 0 s.status) ∙ u.pf)) (λ t. (g t).parity);
        figure = beside o.taken o.lost (λ t. (g t).noise);
      }
    where
      beside : (b c : Bool) → (b ≡ true → fr.noise ≡ 0) → cond (b && not c) fr.noise s.receiver.noise ≡ 0
      beside true true h = u.figure
      beside true false h = h refl
      beside false c h = u.figure

-- A clock.
module _ (x : Bool) (s : Sci) (h : On s) (u : Undamaged s) where
  if_ended : (c : ℕ) (f : Frame) (b : Bool) → AllGood c (cond b (f ∷ []) []) → b ≡ true → Good c f
  unfolding AllGood
  if_ended c f true g e = g.0
  if_ended c f false g e = absurd (false≢true e)

  clock_good : (d : Bool) → leb (2 * SCBR s.sccr0) (s.prescaler + 1) ≡ d → AllGood s.sccr1 (taken_at (clock x) s) → Undamaged (clocked s x)
  unfolding outcome
  clock_good true e g =
      let f : Frame = frame_of s.receiver.framer x in
      let g' : AllGood s.sccr1 (cond (ends s.receiver.framer) (f ∷ []) []) =
      subst (AllGood s.sccr1) (takes_it x s h true (due_now x s h true e)) g in
      subst Undamaged (sym (turns x s h true (due_now x s h true e)))
      (sampled_good s x u (λ t. if_ended s.sccr1 f (ends s.receiver.framer) g' (and_left (ends s.receiver.framer) _ t)))
  clock_good false e g =
      subst Undamaged (sym (turns x s h false (due_now x s h false e)))
      (clear_from s (turned true false true s x) (λ k z. z) refl u)

  clock_settings : (d : Bool) → leb (2 * SCBR s.sccr0) (s.prescaler + 1) ≡ d → settings (clocked s x).sccr1 ≡ settings s.sccr1
  clock_settings true e = ap (λ (r : Sci). settings r.sccr1) (turns x s h true (due_now x s h true e))
  clock_settings false e = ap (λ (r : Sci). settings r.sccr1) (turns x s h false (due_now x s h false e))

-- Writes.
sccr0_good : (s : Sci) (v : ℕ) (upper lower : Bool) → Undamaged s → Undamaged (wrote_sccr0 s v upper lower)
unfolding wrote_sccr0
sccr0_good s v upper lower u =
    by_cond Undamaged (eqb (sccr0_bits (merge s.sccr0 v upper lower)) s.sccr0) (λ _. u)
    (λ _. clear_from s (with_sccr0 s (sccr0_bits (merge s.sccr0 v upper lower))) (λ k z. z) refl u)

sccr1_good : (s : Sci) (v : ℕ) (upper lower : Bool) → Undamaged s → Undamaged (wrote_sccr1 s v upper lower)
unfolding wrote_sccr1
sccr1_good s v upper lower u = go (RE (merge (sccr1_word s) v upper lower))
  where
    go : (b : Bool) → Undamaged (stopped b (with_sccr1 s (merge (sccr1_word s) v upper lower)))
    go true = clear_from s _ (λ k z. z) refl u
    go false = clear_from s _ (λ k z. set_fall k s.status RAF ∙ rw z) refl u

scdr_good : (lower : Bool) (s : Sci) (v : ℕ) (upper : Bool) → Undamaged s → Undamaged (data_written lower s v upper)
scdr_good true s v upper u = clear_from s _ (λ k z. fallSeen_clear k s.status transmit_flags z) refl u
scdr_good false s v upper u = u

sccr1_settings : (s : Sci) (v : ℕ) (upper lower : Bool) → On s → sccr1_guarded s v upper lower ≡ false →
    settings (wrote_sccr1 s v upper lower).sccr1 ≡ settings s.sccr1
unfolding wrote_sccr1
sccr1_settings s v upper lower o g = go (RE (merge (sccr1_word s) v upper lower))
  where
    go : (b : Bool) → settings (stopped b (with_sccr1 s (merge (sccr1_word s) v upper lower))).sccr1 ≡ settings s.sccr1
    go true = settings_stand s v upper lower g o.on
    go false = settings_stand s v upper lower g o.on

sccr0_settings : (s : Sci) (v : ℕ) (upper lower : Bool) → settings (wrote_sccr0 s v upper lower).sccr1 ≡ settings s.sccr1
unfolding wrote_sccr0
sccr0_settings s v upper lower =
    by_cond (λ (r : Sci). settings r.sccr1 ≡ settings s.sccr1) (eqb (sccr0_bits (merge s.sccr0 v upper lower)) s.sccr0) (λ _. refl) (λ _. refl)

scdr_settings : (lower : Bool) (s : Sci) (v : ℕ) (upper : Bool) → settings (data_written lower s v upper).sccr1 ≡ settings s.sccr1
scdr_settings true s v upper = refl
scdr_settings false s v upper = refl

step_good : (e : Step) (s : Sci) → On s → resets e ≡ false → AllGood s.sccr1 (taken_at e s) → Undamaged s → Undamaged (step e s)
unfolding step
step_good reset s o n g u = absurd (true≢false n)
step_good (clock x) s o n g u = clock_good x s o u (leb (2 * SCBR s.sccr0) (s.prescaler + 1)) refl g
step_good (reads scsr scdr) s o n g u = clear_from s _ (λ k z. read_clear k scsr scdr s.status z) refl u
step_good (writesSccr0 v upper lower) s o n g u =
    by_cond Undamaged (sccr0_guarded s v upper lower) (λ _. u) (λ _. sccr0_good s v upper lower u)
step_good (writesSccr1 v upper lower) s o n g u =
    by_cond Undamaged (sccr1_guarded s v upper lower) (λ _. u) (λ _. sccr1_good s v upper lower u)
step_good (writesScdr v upper lower) s o n g u = scdr_good lower s v upper u

step_settings : (e : Step) (s : Sci) → On s → Undamaged s → resets e ≡ false → settings (step e s).sccr1 ≡ settings s.sccr1
unfolding step
step_settings reset s o u n = absurd (true≢false n)
step_settings (clock x) s o u n = clock_settings x s o u (leb (2 * SCBR s.sccr0) (s.prescaler + 1)) refl
step_settings (reads scsr scdr) s o u n = refl
step_settings (writesSccr0 v upper lower) s o u n =
    by_cond (λ (r : Sci). settings r.sccr1 ≡ settings s.sccr1) (sccr0_guarded s v upper lower) (λ _. refl) (λ _. sccr0_settings s v upper lower)
step_settings (writesSccr1 v upper lower) s o u n =
    by_cond (λ (r : Sci). settings r.sccr1 ≡ settings s.sccr1) (sccr1_guarded s v upper lower) (λ _. refl) (λ g. sccr1_settings s v upper lower o g)
step_settings (writesScdr v upper lower) s o u n = scdr_settings lower s v upper

-- After each step.
unfoldable pub Always : List Step → Sci → Type 0
Always [] s = Unit {0}
Always (e ∷ es) s = Undamaged (step e s) × Always es (step e s)

pub goes_on : (es : List Step) (s : Sci) → On s → StaysAwake es s → AllGood s.sccr1 (taken_in es s) → Undamaged s → Always es s
unfolding StaysAwake taken_in Always
goes_on [] s o h g u = tt
goes_on (e ∷ es) s o h g u =
    let v : Undamaged (step e s) = step_good e s o h.0 (good_front s.sccr1 (taken_at e s) (taken_in es (step e s)) g) u in
    let o' : On (step e s) = on_step e s o h.0 h.1 h.2 in
    let g' : AllGood (step e s).sccr1 (taken_in es (step e s)) =
    good_settings s.sccr1 (step e s).sccr1 (taken_in es (step e s)) (step_settings e s o u h.0)
    (good_back s.sccr1 (taken_at e s) (taken_in es (step e s)) g) in
    (v, goes_on es (step e s) o' h.3 g' v)

pub no_damage_holds : (s : Sci) (es : List Step) (fs : List SentFrame) → Ready s → StaysAwake es s → rxd_in es ≡ line fs →
    FairFrames (2 * SCBR s.sccr0) (bits_of (M s.sccr1)) fs → RightParity s.sccr1 fs → Undamaged s → Always es s
no_damage_holds s es fs r h e f p u =
    goes_on es s r.on h (subst (AllGood s.sccr1) (sym (taken s es fs r h e f)) (good_sent s.sccr1 fs p)) u
