-- What holds of the serial half after every history, and how its steps reach the receiver.
use mathlib.Core.Path.{◌≡◌, refl, ap, sym, subst, ◌∙◌}
use mathlib.Core.Bool.{Bool, true, false, cond, not, ◌&&◌, ◌||◌, true≢false, false≢true}
use mathlib.Core.List.{List, [], ◌∷◌}
use Prim.Native.Nat.{ℕ, ◌+◌, ◌*◌, ◌/◌, ◌%◌, ◌^◌}
use native.Mathlib.Omega.{arith}
use lib.Dec.{eqb}
use borrow.Author.Tests.{eqb-true}
use Rattle.steps.specs.Bits.{merge}
use Rattle.sci.specs.model.Flags.{RAF, transmit_flags}
use Rattle.sci.specs.model.Status.{fall, fall_seen}
use Rattle.sci.specs.model.Control.{TE, RE, RWU, M, bits_of, settings, sccr0_bits, sccr1_bits}
use Rattle.sci.specs.model.Receiver.{start_state}
use Rattle.sci.specs.model.Transmitter.{runs, sent}
use Rattle.sci.specs.claims.Line.{sample, read, act, read_status}
use Rattle.sci.specs.claims.Sound.{Sound}
use Rattle.sci.specs.claims.Alike.{Same}
use Rattle.sci.specs.model.Parts.{after_sent, with_status, with_sleep}
use Rattle.sci.specs.model.Serial.{reset_sci, active, due, heard, sampled, counted, prescaled, clocked, sccr1_word, data_written, wrote_sccr0, stopped, with_sccr1, wrote_sccr1, sccr0_guarded, sccr1_guarded}
use Rattle.sci.specs.claims.History.{Step, reset, clock, reads, writesSccr0, writesSccr1, writesScdr, step, run, receiving}
use Rattle.sci.specs.declared.status.Status.{Status}
use Rattle.sci.specs.declared.receiver.Receiver.{Receiver}
use Rattle.sci.specs.declared.receiver.Received.{Received}
use Rattle.sci.specs.declared.serial.Sci.{Sci}
use Rattle.sci.proofs.Marks.{Marked, at, all, marked_fall_on}
use Rattle.sci.proofs.Same.{set_at, marked_at, same_sent, same_loaded}
use Rattle.sci.proofs.Settings.{same_bits}
use Rattle.sci.proofs.Frames.{by_cond}
use Rattle.sci.proofs.Sound.{sound_act, sound_status, sound_start}

-- One clock, by whether the half is active, a sample is due, and the receiver is on.
abbrev pub turned : Bool → Bool → Bool → Sci → Bool → Sci
turned true true on s x = heard on (after_sent s (sent s.transmitter s.status s.sccr1)) x
turned true false on s x = counted s
turned false due on s x = s

pub clock_turned : (s : Sci) (x : Bool) → clocked s x ≡ turned (active s) (due s) (RE s.sccr1) s x
unfolding clocked sampled
clock_turned s x = go (active s) (due s)
  where
    go : (a d : Bool) → cond a (prescaled d s x) s ≡ turned a d (RE s.sccr1) s x
    go true true = refl
    go true false = refl
    go false true = refl
    go false false = refl

same_marked : (s t : Status) → Same s t → Marked s → Marked t
same_marked s t e m =
    all t (λ k h g. sym (set_at s t e k h) ∙ at s m k h (marked_at s t e k h ∙ g))

-- After every history: the receiver is sound, and with RE clear it is in its start state.
pub record Reachable (s : Sci) : Type 0 where
  pub sound : Sound (bits_of (M s.sccr1)) (receiving s)
  pub off : RE s.sccr1 ≡ false → s.receiver ≡ start_state s.receiver

reachable_reset : Reachable reset_sci
reachable_reset =
    record { sound = sound_start 8 reset_sci.receiver reset_sci.status refl; off = λ e. refl }

-- A change of the status alone.
reachable_status : (s : Sci) (t : Status) → Reachable s → Marked t → Reachable (with_status s t)
reachable_status s t k m =
    record { sound = sound_status (bits_of (M s.sccr1)) (receiving s) t k.sound m; off = k.off }

reachable_turned : (a d on : Bool) (s : Sci) (x : Bool) → RE s.sccr1 ≡ on → Reachable s → Reachable (turned a d on s x)
unfolding act
reachable_turned true true true s x e k =
    let t : Status = (sent s.transmitter s.status s.sccr1).status in
    let m : Marked t = same_marked s.status t (same_sent s.transmitter s.status s.sccr1) k.sound.marks in
    record {
      sound =
          sound_act s.sccr1 (sample x) (record { receiver = s.receiver; status = t })
          (sound_status (bits_of (M s.sccr1)) (receiving s) t k.sound m);
      off = λ h. absurd (true≢false (sym e ∙ h));
    }
reachable_turned true true false s x e k =
    let t : Status = (sent s.transmitter s.status s.sccr1).status in
    let m : Marked t = same_marked s.status t (same_sent s.transmitter s.status s.sccr1) k.sound.marks in
    record { sound = sound_status (bits_of (M s.sccr1)) (receiving s) t k.sound m; off = k.off }
reachable_turned true false on s x e k = record { sound = k.sound; off = k.off }
reachable_turned false d on s x e k = k

reachable_read : (scsr scdr : Bool) (s : Sci) → Reachable s → Reachable (with_status s (read_status scsr scdr s.status))
unfolding act
reachable_read scsr scdr s k =
    reachable_status s (read_status scsr scdr s.status) k (sound_act s.sccr1 (read scsr scdr) (receiving s) k.sound).marks

reachable_sccr0 : (s : Sci) (v : ℕ) (upper lower : Bool) → Reachable s → Reachable (wrote_sccr0 s v upper lower)
unfolding wrote_sccr0
reachable_sccr0 s v upper lower k =
    by_cond Reachable (eqb (sccr0_bits (merge s.sccr0 v upper lower)) s.sccr0) (λ e. k)
    (λ e. record { sound = k.sound; off = k.off })

reachable_scdr : (lower : Bool) (s : Sci) (v : ℕ) (upper : Bool) → Reachable s → Reachable (data_written lower s v upper)
reachable_scdr true s v upper k =
    record {
      sound =
          sound_status (bits_of (M s.sccr1)) (receiving s) (fall_seen s.status transmit_flags) k.sound
          (same_marked s.status (fall_seen s.status transmit_flags) (same_loaded s.status) k.sound.marks);
      off = k.off;
    }
reachable_scdr false s v upper k = k

-- A write of SCCR1 puts the bits 12:8 that the guard tests.
fours : (z : ℕ) → z / 4 * 4 / 256 ≡ z / 256
fours z =
    let e : z / 256 ≡ z / 4 / 64 = omega arith in
    let f : z / 4 * 4 / 256 ≡ z / 4 / 64 = omega arith in
    f ∙ sym e

settings_bits : (w : ℕ) → settings (sccr1_bits w) ≡ settings w
settings_bits w = rw (fours (w % 2 ^ 13)) (omega arith)

settings_asleep : (w : ℕ) → settings (sccr1_bits w + 2) ≡ settings w
settings_asleep w =
    let e : (sccr1_bits w + 2) / 256 ≡ sccr1_bits w / 256 = omega arith in
    rw (e) (settings_bits w)

settings_merge : (a v : ℕ) (upper lower : Bool) → settings (merge a v upper lower) ≡ cond upper (settings v) (settings a)
settings_merge a v true true = omega arith
settings_merge a v true false = omega arith
settings_merge a v false true = omega arith
settings_merge a v false false = omega arith

settings_word : (c : ℕ) (asleep : Bool) → settings (cond asleep (sccr1_bits c + 2) (sccr1_bits c)) ≡ settings c
settings_word c true = settings_asleep c
settings_word c false = settings_bits c

settings_put : (c v : ℕ) (asleep upper lower : Bool) →
    settings (sccr1_bits (merge (cond asleep (sccr1_bits c + 2) (sccr1_bits c)) v upper lower)) ≡ settings (merge c v upper lower)
settings_put c v asleep upper lower =
    settings_bits (merge (cond asleep (sccr1_bits c + 2) (sccr1_bits c)) v upper lower)
    ∙ settings_merge (cond asleep (sccr1_bits c + 2) (sccr1_bits c)) v upper lower
    ∙ ap (cond upper (settings v)) (settings_word c asleep)
    ∙ sym (settings_merge c v upper lower)

pub re_put : (w : ℕ) → RE (sccr1_bits w) ≡ RE w
re_put w = let h : sccr1_bits w / 2 ^ 2 % 2 ≡ w / 2 ^ 2 % 2 = omega arith in ap (λ d. eqb d 1) h

not_guarded : (te re ru q : Bool) → (te || re || ru) && not q ≡ false → re ≡ true → q ≡ true
not_guarded te re ru true e h = refl
not_guarded true re ru false e h = absurd (true≢false e)
not_guarded false true ru false e h = absurd (true≢false e)
not_guarded false false ru false e h = absurd (false≢true h)

-- With RE set the settings stand.
pub settings_stand : (s : Sci) (v : ℕ) (upper lower : Bool) → sccr1_guarded s v upper lower ≡ false → RE s.sccr1 ≡ true →
    settings (sccr1_bits (merge (sccr1_word s) v upper lower)) ≡ settings s.sccr1
unfolding sccr1_guarded
settings_stand s v upper lower e h =
    settings_put s.sccr1 v s.receiver.asleep upper lower
    ∙ eqb-true (settings (merge s.sccr1 v upper lower)) (settings s.sccr1)
    (not_guarded (TE s.sccr1) (RE s.sccr1) (runs s.transmitter) _ e h)

sound_sleep : (n : ℕ) (p : Received) (asleep : Bool) → Sound n p →
    Sound n (record { receiver = with_sleep p.receiver asleep; status = p.status })
sound_sleep n p asleep i = record { fits = i.fits; low = i.low; top = i.top; calm = i.calm; marks = i.marks }

module _ (s : Sci) (w : ℕ) (k : Reachable s) (stand : RE s.sccr1 ≡ true → settings (sccr1_bits w) ≡ settings s.sccr1) where
  sound_put : (on : Bool) → RE s.sccr1 ≡ on → Sound (bits_of (M (sccr1_bits w))) (receiving (with_sccr1 s w))
  sound_put true e =
      subst (λ (n : ℕ). Sound n (receiving (with_sccr1 s w))) (sym (same_bits (sccr1_bits w) s.sccr1 (stand e)))
      (sound_sleep (bits_of (M s.sccr1)) (receiving s) (RWU w) k.sound)
  sound_put false e =
      subst
      (λ (r : Receiver). Sound (bits_of (M (sccr1_bits w))) (record { receiver = with_sleep r (RWU w); status = s.status }))
      (sym (k.off e)) (sound_start (bits_of (M (sccr1_bits w))) (with_sleep s.receiver (RWU w)) s.status k.sound.marks)

  reachable_put : (on : Bool) → RE w ≡ on → Reachable (stopped on (with_sccr1 s w))
  reachable_put true e =
      record {
        sound = sound_put (RE s.sccr1) refl;
        off = λ h. absurd (true≢false (sym e ∙ sym (re_put w) ∙ h));
      }
  reachable_put false e =
      record {
        sound =
            sound_start (bits_of (M (sccr1_bits w))) (with_sleep s.receiver (RWU w)) (fall s.status RAF)
            (marked_fall_on s.status RAF k.sound.marks);
        off = λ h. refl;
      }

reachable_sccr1 : (s : Sci) (v : ℕ) (upper lower : Bool) → sccr1_guarded s v upper lower ≡ false → Reachable s →
    Reachable (wrote_sccr1 s v upper lower)
unfolding wrote_sccr1
reachable_sccr1 s v upper lower e k =
    let w : ℕ = merge (sccr1_word s) v upper lower in
    reachable_put s w k (settings_stand s v upper lower e) (RE w) refl

pub reachable_step : (e : Step) (s : Sci) → Reachable s → Reachable (step e s)
unfolding step
reachable_step reset s k = reachable_reset
reachable_step (clock x) s k = rw (clock_turned s x) (reachable_turned (active s) (due s) (RE s.sccr1) s x refl k)
reachable_step (reads scsr scdr) s k = reachable_read scsr scdr s k
reachable_step (writesSccr0 v upper lower) s k =
    by_cond Reachable (sccr0_guarded s v upper lower) (λ e. k) (λ e. reachable_sccr0 s v upper lower k)
reachable_step (writesSccr1 v upper lower) s k =
    by_cond Reachable (sccr1_guarded s v upper lower) (λ e. k) (λ e. reachable_sccr1 s v upper lower e k)
reachable_step (writesScdr v upper lower) s k = reachable_scdr lower s v upper k

pub reachable_run : (es : List Step) (s : Sci) → Reachable s → Reachable (run es s)
unfolding run
reachable_run [] s k = k
reachable_run (e ∷ es) s k = reachable_run es (step e s) (reachable_step e s k)

pub reachable_history : (es : List Step) → Reachable (run es reset_sci)
reachable_history es = reachable_run es reset_sci reachable_reset
