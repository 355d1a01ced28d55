-- Samples, reads, a start state and the transmitter's flags keep what holds of every receiver that is on.
use mathlib.Core.Path.{◌≡◌, refl}
use mathlib.Core.Bool.{Bool, true, false, cond, not, ◌&&◌, ◌||◌, false≢true}
use mathlib.Core.List.{List, [], ◌∷◌}
use Prim.Native.Nat.{ℕ, suc, ◌+◌, ◌-◌, ◌*◌, ◌%◌, ◌≤◌, ◌<◌}
use native.Mathlib.Omega.{arith}
use lib.Dec.{eqb}
use borrow.Author.Tests.{eqb-false}
use Rattle.sci.specs.model.Flags.{receive_flags}
use Rattle.sci.specs.model.Control.{M, PE, PT, bits_of, frame_samples}
use Rattle.sci.specs.model.Bits.{parity_bit}
use Rattle.sci.specs.model.Framer.{ends, frame_of, framed}
use Rattle.sci.specs.model.Receiver.{start_state, three, takes, idle_count, outcome, receiver_after, received}
use Rattle.sci.specs.claims.Line.{Op, sample, read, act, acts, looked, fetched, read_status}
use Rattle.sci.specs.claims.Sound.{span, togo, Fits, Sound}
use Rattle.sci.specs.declared.status.Status.{Status}
use Rattle.sci.specs.declared.framer.Framer.{Framer}
use Rattle.sci.specs.declared.receiver.Receiver.{Receiver}
use Rattle.sci.specs.declared.receiver.Outcome.{Outcome}
use Rattle.sci.specs.declared.receiver.Received.{Received}
use Rattle.sci.proofs.Membership.{and_left}
use Rattle.sci.proofs.Marks.{Marked, marked_after, marked_mark_on, marked_fallSeen_on}
use Rattle.sci.proofs.Frames.{Moved, moved}

-- A frame that runs has begun: its end is nearer than a whole frame.
within : (n : ℕ) (f : Framer) → Fits n f → togo n f < span n
within n f i = go f.framing f.starting i.early i.late
  where
    go : (framing starting : Bool) →
        (framing ≡ true → starting ≡ true → (0 < f.rt) × (f.rt < 16) × (f.left ≡ n)) →
        (framing ≡ true → starting ≡ false → (f.rt % 16 < 16 * f.left + 10) × (f.left ≤ n)) →
        cond framing (cond starting (span n - f.rt) (16 * f.left + 10 - f.rt % 16)) 0 < span n
    go true true g h = let t = g refl refl in omega arith
    go true false g h = let t = h refl refl in omega arith
    go false starting g h = omega arith

-- The three facts on the idle count, of any sample: `t` samples to go before it, `t'` after.
low_after : (counted : Bool) (n idle t t' : ℕ) → (counted ≡ true → 0 < t' → suc t' ≡ t) → (0 < t → idle + t < span n) →
    t' < span n → 0 < t' → idle_count counted idle (frame_samples n) + t' < span n
low_after true n idle t t' f l w z = omega (arith, f refl z, l (omega (arith, f refl z)))
low_after false n idle t t' f l w z = omega arith

top_after : (counted : Bool) (n idle : ℕ) → idle_count counted idle (frame_samples n) ≤ frame_samples n
top_after true n idle = omega arith
top_after false n idle = omega arith

calm_after : (counted reached enters since : Bool) (n idle : ℕ) → counted && eqb (idle + 1) (frame_samples n) ≡ reached →
    idle ≤ frame_samples n → (idle ≡ frame_samples n → since ≡ false) → (idle ≡ frame_samples n → enters ≡ false) →
    idle_count counted idle (frame_samples n) ≡ frame_samples n → not reached && (enters || since) ≡ false
calm_after true true enters since n idle e top f g z = refl
calm_after true false enters since n idle e top f g z =
    let full : idle ≡ frame_samples n = omega (arith, eqb-false (idle + 1) (frame_samples n) e) in
    rw (g full, f full)
calm_after false reached enters since n idle e top f g z = absurd (omega arith)

not_ended : (e t l : Bool) → (e ≡ true → ⊥) → (e && t) && not l ≡ false
not_ended true t l f = absurd (f refl)
not_ended false t l f = refl

pub sound_sample : (sccr1 : ℕ) (x : Bool) (p : Received) → Sound (bits_of (M sccr1)) p →
    Sound (bits_of (M sccr1)) (act sccr1 (sample x) p)
unfolding act received receiver_after outcome
sound_sample sccr1 x p i =
    let n : ℕ = bits_of (M sccr1) in
    let r : Receiver = p.receiver in
    let f : Framer = r.framer in
    let o : Outcome = outcome r p.status sccr1 x in
    let g : Framer = framed n f (three r) x in
    let m : Moved n f x g = moved n f (three r) x i.fits in
    record {
      fits = m.fits;
      low =
          low_after o.counted n r.idle (togo n f) (togo n g)
          (λ c. m.onward (and_left x _ c)) i.low (within n g m.fits);
      top = top_after o.counted n r.idle;
      calm =
          calm_after o.counted o.reached (o.taken && not o.lost) r.since n r.idle refl i.top i.calm
          (λ z.
          not_ended (ends f) (takes r sccr1 f.shift) o.lost
          (λ e. omega (arith, m.over e, i.low (omega (arith, m.over e)))));
      marks =
          marked_after p.status o (frame_of f x) (PE sccr1 && parity_bit (PT sccr1) f.shift)
          (o.reached && not r.asleep && r.since) i.marks;
    }

-- Where the receiver keeps still, only the marks matter.
pub sound_status : (n : ℕ) (p : Received) (s : Status) → Sound n p → Marked s →
    Sound n (record { receiver = p.receiver; status = s })
sound_status n p s i m = record { fits = i.fits; low = i.low; top = i.top; calm = i.calm; marks = m }

marked_looked : (b : Bool) (s : Status) → Marked s → Marked (looked b s)
marked_looked true s m = marked_mark_on s m
marked_looked false s m = m

marked_fetched : (b : Bool) (s : Status) → Marked s → Marked (fetched b s)
marked_fetched true s m = marked_fallSeen_on s receive_flags m
marked_fetched false s m = m

pub sound_act : (sccr1 : ℕ) (o : Op) (p : Received) → Sound (bits_of (M sccr1)) p → Sound (bits_of (M sccr1)) (act sccr1 o p)
unfolding act
sound_act sccr1 (sample x) p i = sound_sample sccr1 x p i
sound_act sccr1 (read scsr scdr) p i =
    sound_status (bits_of (M sccr1)) p (read_status scsr scdr p.status) i
    (marked_fetched scdr (looked scsr p.status) (marked_looked scsr p.status i.marks))

pub sound_acts : (sccr1 : ℕ) (os : List Op) (p : Received) → Sound (bits_of (M sccr1)) p →
    Sound (bits_of (M sccr1)) (acts sccr1 os p)
unfolding acts
sound_acts sccr1 [] p i = i
sound_acts sccr1 (o ∷ os) p i = sound_acts sccr1 os (act sccr1 o p) (sound_act sccr1 o p i)

-- A start state, whatever SCDR and the flags hold.
pub sound_start : (n : ℕ) (r : Receiver) (s : Status) → Marked s → Sound n (record { receiver = start_state r; status = s })
sound_start n r s m =
    record {
      fits =
          record { rests = λ e. refl; early = λ e h. absurd (false≢true e); late = λ e h. absurd (false≢true e) };
      low = λ z. absurd (omega arith);
      top = omega arith;
      calm = λ e. refl;
      marks = m;
    }
