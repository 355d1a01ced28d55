-- Ones lead a receiver that is on and awake to one state of its line.
use mathlib.Core.Path.{◌≡◌, refl, subst}
use mathlib.Core.Bool.{Bool, true, false, cond, not, ◌&&◌}
use mathlib.Core.List.{List, [], ◌∷◌}
use Prim.Native.Nat.{ℕ, zero, suc, ◌+◌, ◌-◌, ◌*◌, ◌%◌, ◌≤◌, ◌<◌}
use native.Mathlib.Omega.{arith}
use native.Mathlib.Decide.{dec_lt}
use Rattle.sci.specs.model.Control.{M, bits_of, frame_samples}
use Rattle.sci.specs.model.Framer.{searching, ends, framed}
use Rattle.sci.specs.model.Receiver.{three, idle_count, outcome, receiver_after, received}
use Rattle.sci.specs.claims.Line.{Op, sample, read, act, acts, Ones, samples_in, resync_samples}
use Rattle.sci.specs.claims.Sound.{span, togo, Fits, Sound}
use Rattle.sci.specs.claims.Alike.{line}
use Rattle.sci.specs.declared.framer.Framer.{Framer}
use Rattle.sci.specs.declared.receiver.Receiver.{Receiver}
use Rattle.sci.specs.declared.receiver.Received.{Received}
use Rattle.sci.proofs.Frames.{Moved, moved}
use Rattle.sci.proofs.Sound.{sound_act}

-- With no sample to go no frame runs.
no_frame : (n : ℕ) (f : Framer) → Fits n f → togo n f ≡ 0 → f ≡ searching
no_frame n f i z = i.rests (go f.framing f.starting i.early i.late z)
  where
    go : (framing starting : Bool) →
        (framing ≡ true → starting ≡ true → (0 < f.rt) × (f.rt < 16) × (f.left ≡ n)) →
        (framing ≡ true → starting ≡ false → (f.rt % 16 < 16 * f.left + 10) × (f.left ≤ n)) →
        cond framing (cond starting (span n - f.rt) (16 * f.left + 10 - f.rt % 16)) 0 ≡ 0 → framing ≡ false
    go true true g h e = let t = g refl refl in absurd (omega arith)
    go true false g h e = let t = h refl refl in absurd (omega arith)
    go false starting g h e = refl

-- After k ones: a running frame is near its end, an ended one has left the idle count near its limit.
pub record Progress (n k : ℕ) (r : Receiver) : Type 0 where
  pub busy : 0 < togo n r.framer → k + togo n r.framer < span n
  pub rest : togo n r.framer ≡ 0 → r.idle < frame_samples n → k < r.idle + span n
  pub one : 1 ≤ k → r.last1 ≡ true
  pub two : 2 ≤ k → r.last2 ≡ true
  pub tri : 3 ≤ k → r.last3 ≡ true
  pub awake : r.asleep ≡ false

by_zero : {P : Type 0} (t : ℕ) → (t ≡ 0 → P) → (0 < t → P) → P
by_zero zero f g = f refl
by_zero (suc t) f g = g (omega arith)

-- The rest after a one: `t` samples to go before it, `t'` after.
rest_after : (ended ilt : Bool) (n k idle t t' : ℕ) → (ended ≡ true → (t ≡ 1) × (t' ≡ 0)) → (0 < t → k + t < span n) →
    (t ≡ 0 → idle < frame_samples n → k < idle + span n) →
    idle_count (true && not (ended && ilt)) idle (frame_samples n) < frame_samples n →
    suc k < idle_count (true && not (ended && ilt)) idle (frame_samples n) + span n
rest_after true ilt n k idle t t' over busy rest c =
    let o = over refl in
    omega (arith, busy (omega arith))
rest_after false ilt n k idle t t' over busy rest c =
    by_zero t (λ e. omega (arith, rest e (omega arith))) (λ h. omega (arith, busy h))

pub progress_start : (n : ℕ) (p : Received) → Sound n p → p.receiver.asleep ≡ false → Progress n 0 p.receiver
progress_start n p i a =
    record {
      busy = λ h. omega (arith, i.low h);
      rest = λ z c. omega arith;
      one = λ h. absurd (omega arith);
      two = λ h. absurd (omega arith);
      tri = λ h. absurd (omega arith);
      awake = a;
    }

pub progress_one : (sccr1 k : ℕ) (p : Received) → Sound (bits_of (M sccr1)) p → Progress (bits_of (M sccr1)) k p.receiver →
    Progress (bits_of (M sccr1)) (suc k) (act sccr1 (sample true) p).receiver
unfolding act received receiver_after outcome
progress_one sccr1 k p i g =
    let n : ℕ = bits_of (M sccr1) in
    let r : Receiver = p.receiver in
    let f : Framer = r.framer in
    let m : Moved n f true (framed n f (three r) true) = moved n f (three r) true i.fits in
    record {
      busy = λ h. omega (arith, m.onward refl h, g.busy (omega (arith, m.onward refl h)));
      rest =
          λ z c.
          rest_after (ends f) _ n k r.idle (togo n f) (togo n (framed n f (three r) true)) m.over g.busy
          g.rest c;
      one = λ h. refl;
      two = λ h. g.one (omega arith);
      tri = λ h. g.two (omega arith);
      awake = rw g.awake;
    }

progress_read : (sccr1 k : ℕ) (scsr scdr : Bool) (p : Received) → Progress (bits_of (M sccr1)) k p.receiver →
    Progress (bits_of (M sccr1)) k (act sccr1 (read scsr scdr) p).receiver
unfolding act
progress_read sccr1 k scsr scdr p g = g

pub progress_acts : (sccr1 : ℕ) (os : List Op) (p : Received) (k : ℕ) → Ones os → Sound (bits_of (M sccr1)) p →
    Progress (bits_of (M sccr1)) k p.receiver →
    Progress (bits_of (M sccr1)) (samples_in os + k) (acts sccr1 os p).receiver
unfolding acts
progress_acts sccr1 [] p k on i g = subst (λ j. Progress (bits_of (M sccr1)) j p.receiver) (omega arith) g
progress_acts sccr1 (sample true ∷ os) p k on i g =
    let q : Received = act sccr1 (sample true) p in
    subst (λ j. Progress (bits_of (M sccr1)) j (acts sccr1 os q).receiver) (omega arith)
    (progress_acts sccr1 os q (suc k) on (sound_act sccr1 (sample true) p i) (progress_one sccr1 k p i g))
progress_acts sccr1 (sample false ∷ os) p k on i g = absurd on
progress_acts sccr1 (read scsr scdr ∷ os) p k on i g =
    progress_acts sccr1 os (act sccr1 (read scsr scdr) p) k on (sound_act sccr1 (read scsr scdr) p i)
    (progress_read sccr1 k scsr scdr p g)

-- That state: searching after three ones, the idle count at its limit, no frame since, awake.
abbrev pub settled : ℕ → Receiver
settled n =
    record {
      framer = searching;
      last1 = true;
      last2 = true;
      last3 = true;
      idle = frame_samples n;
      since = false;
      asleep = false;
      scdr = 0;
      noise = 0;
    }

pub settles : (n k : ℕ) (p : Received) → Sound n p → Progress n k p.receiver → n ≤ 9 → resync_samples ≤ k →
    line p.receiver ≡ settled n
settles n k p i g hn hk =
    let r : Receiver = p.receiver in
    let z : togo n r.framer ≡ 0 = by_zero (togo n r.framer) (λ e. e) (λ h. absurd (omega (arith, g.busy h))) in
    let c : r.idle ≡ frame_samples n =
    elim (dec_lt r.idle (frame_samples n)) [ yes h ↦ absurd (omega (arith, g.rest z h)) | no h ↦ omega (arith, i.top) ] in
    let f : r.framer ≡ searching = no_frame n r.framer i.fits z in
    let e₁ : r.last1 ≡ true = g.one (omega arith) in
    let e₂ : r.last2 ≡ true = g.two (omega arith) in
    let e₃ : r.last3 ≡ true = g.tri (omega arith) in
    let s : r.since ≡ false = i.calm c in
    let a : r.asleep ≡ false = g.awake in
    λ j.
    record {
      framer = f j;
      last1 = e₁ j;
      last2 = e₂ j;
      last3 = e₃ j;
      idle = c j;
      since = s j;
      asleep = a j;
      scdr = 0;
      noise = 0;
    }
