-- Accesses leave what a receiver hears by, and a clock moves it on by one sample or none; it stays on and awake. Assumes nothing.
use mathlib.Core.Path.{◌≡◌, refl, ap, sym, subst, ◌∙◌}
use mathlib.Core.Bool.{Bool, true, false, cond, not, ◌&&◌, ◌||◌, true≢false, false≢true}
use mathlib.Core.List.{[], ◌∷◌}
use Prim.Native.Nat.{ℕ, ◌+◌, ◌*◌, ◌%◌, ◌^◌, ◌<◌}
use native.Mathlib.Omega.{arith}
use lib.Dec.{eqb, leb}
use borrow.Author.Tests.{eqb-true, eqb-false, leb-false, ne_eqb}
use Rattle.steps.specs.Bits.{merge}
use Rattle.sci.specs.model.Control.{SCBR, TE, RE, M, bits_of, sccr0_bits, sccr1_bits}
use Rattle.sci.specs.model.Framer.{ends, frame_of}
use Rattle.sci.specs.model.Receiver.{outcome}
use Rattle.sci.specs.model.Transmitter.{runs}
use Rattle.sci.specs.model.Serial.{active, due, clocked, sccr1_word, with_sccr1, stopped, wrote_sccr0, wrote_sccr1, sccr0_guarded, sccr1_guarded, data_written}
use Rattle.sci.specs.claims.History.{Step, reset, clock, reads, writesSccr0, writesSccr1, writesScdr, step}
use Rattle.sci.specs.declared.serial.Sci.{Sci}
use Rattle.sci.proofs.Frames.{by_cond}
use Rattle.sci.proofs.Settings.{same_bits}
use Rattle.sci.proofs.Sampling.{re_active}
use Rattle.sci.proofs.Reachable.{turned, clock_turned, re_put, settings_stand}
use Rattle.claims_senders.proofs.Receiving.{taken_at, resets, On}

-- What a receiver hears by is as it was.
pub record Same (s r : Sci) : Type 0 where
  pub framer : r.receiver.framer ≡ s.receiver.framer
  pub last1 : r.receiver.last1 ≡ s.receiver.last1
  pub last2 : r.receiver.last2 ≡ s.receiver.last2
  pub last3 : r.receiver.last3 ≡ s.receiver.last3
  pub sccr0 : r.sccr0 ≡ s.sccr0
  pub prescaler : r.prescaler ≡ s.prescaler
  pub bits : bits_of (M r.sccr1) ≡ bits_of (M s.sccr1)

same : (s : Sci) → Same s s
same s = record { framer = refl; last1 = refl; last2 = refl; last3 = refl; sccr0 = refl; prescaler = refl; bits = refl }

-- With RE set SCCR0 stands.
not_guarded : (te re ru q : Bool) → (te || re || ru) && not q ≡ false → re ≡ true → q ≡ true
not_guarded te re ru true e h = refl
not_guarded true re ru false e h = absurd (true≢false e)
not_guarded false true ru false e h = absurd (true≢false e)
not_guarded false false ru false e h = absurd (false≢true h)

same_sccr0 : (s : Sci) (v : ℕ) (upper lower : Bool) → On s → sccr0_guarded s v upper lower ≡ false → Same s (wrote_sccr0 s v upper lower)
unfolding sccr0_guarded wrote_sccr0
same_sccr0 s v upper lower o g =
    let new : ℕ = sccr0_bits (merge s.sccr0 v upper lower) in
    let e : new ≡ sccr0_bits s.sccr0 =
    eqb-true new (sccr0_bits s.sccr0) (not_guarded (TE s.sccr1) (RE s.sccr1) (runs s.transmitter) _ g o.on) in
    let w : s.sccr0 < 2 ^ 13 = o.whole in
    let z : s.sccr0 % 2 ^ 13 ≡ s.sccr0 = omega arith in
    by_cond (Same s) (eqb new s.sccr0) (λ _. same s) (λ y. absurd (eqb-false new s.sccr0 y (e ∙ z)))

same_sccr1 : (s : Sci) (v : ℕ) (upper lower : Bool) → On s → sccr1_guarded s v upper lower ≡ false →
    RE (wrote_sccr1 s v upper lower).sccr1 ≡ true → Same s (wrote_sccr1 s v upper lower)
unfolding wrote_sccr1
same_sccr1 s v upper lower o g = go (RE new) refl
  where
    new : ℕ
    new = merge (sccr1_word s) v upper lower

    go : (b : Bool) → RE new ≡ b → RE (stopped b (with_sccr1 s new)).sccr1 ≡ true → Same s (stopped b (with_sccr1 s new))
    go true e h =
        record {
          framer = refl;
          last1 = refl;
          last2 = refl;
          last3 = refl;
          sccr0 = refl;
          prescaler = refl;
          bits = same_bits (sccr1_bits new) s.sccr1 (settings_stand s v upper lower g o.on);
        }
    go false e h = absurd (false≢true (sym e ∙ sym (re_put new) ∙ h))

pub same_scdr : (lower : Bool) (s : Sci) (v : ℕ) (upper : Bool) → Same s (data_written lower s v upper)
same_scdr true s v upper =
    record { framer = refl; last1 = refl; last2 = refl; last3 = refl; sccr0 = refl; prescaler = refl; bits = refl }
same_scdr false s v upper = same s

pub still_on : (s r : Sci) → On s → Same s r → RE r.sccr1 ≡ true → r.receiver.asleep ≡ false → On r
still_on s r o h on awake =
    record {
      on = on;
      awake = awake;
      whole = subst (λ (v : ℕ). v < 2 ^ 13) (sym h.sccr0) o.whole;
      phase =
          subst (λ (v : ℕ). v < 2 * SCBR r.sccr0) (sym h.prescaler)
          (subst (λ (v : ℕ). s.prescaler < 2 * SCBR v) (sym h.sccr0) o.phase);
    }

-- A clock.
module _ (x : Bool) (s : Sci) (o : On s) where
  pub due_now : (d : Bool) → leb (2 * SCBR s.sccr0) (s.prescaler + 1) ≡ d → due s ≡ d
  due_now d e =
      let p : s.prescaler < 2 * SCBR s.sccr0 = o.phase in
      let z : eqb (2 * SCBR s.sccr0) 0 ≡ false = ne_eqb (2 * SCBR s.sccr0) 0 (λ v. omega arith) in
      rw (z, e)

  pub turns : (d : Bool) → due s ≡ d → clocked s x ≡ turned true d true s x
  turns d e = clock_turned s x ∙ go (active s) (due s) (RE s.sccr1) (re_active s o.on) e o.on
    where
      go : (a b c : Bool) → a ≡ true → b ≡ d → c ≡ true → turned a b c s x ≡ turned true d true s x
      go a b c p q r = rw (p, q, r)

  pub takes_it : (d : Bool) → due s ≡ d → taken_at (clock x) s ≡ cond (d && ends s.receiver.framer) (frame_of s.receiver.framer x ∷ []) []
  unfolding outcome
  takes_it d e =
      go (active s) (due s) (RE s.sccr1) s.receiver.asleep _ (ends s.receiver.framer) (re_active s o.on) e o.on o.awake
    where
      go : (a b c sleeps addressed over : Bool) → a ≡ true → b ≡ d → c ≡ true → sleeps ≡ false →
          cond (a && b && c && (over && (not sleeps || addressed))) (frame_of s.receiver.framer x ∷ []) []
          ≡ cond (d && over) (frame_of s.receiver.framer x ∷ []) []
      go a b c sleeps addressed over p q r t = rw (p, q, r, t) (ap (λ (y : Bool). cond y (frame_of s.receiver.framer x ∷ []) []) (and_simple d over))
        where
          and_simple : (d over : Bool) → d && true && (over && true) ≡ d && over
          and_simple true true = refl
          and_simple true false = refl
          and_simple false true = refl
          and_simple false false = refl

  pub sample_on : RE (turned true true true s x).sccr1 ≡ true → (turned true true true s x).receiver.asleep ≡ false → On (turned true true true s x)
  sample_on on awake =
      let p : s.prescaler < 2 * SCBR s.sccr0 = o.phase in
      record { on = on; awake = awake; whole = o.whole; phase = omega arith }

  pub count_on : leb (2 * SCBR s.sccr0) (s.prescaler + 1) ≡ false → On (turned true false true s x)
  count_on e =
      let l : s.prescaler + 1 < 2 * SCBR s.sccr0 = leb-false (2 * SCBR s.sccr0) (s.prescaler + 1) e in
      record { on = o.on; awake = o.awake; whole = o.whole; phase = omega arith }

pub same_write0 : (s : Sci) (v : ℕ) (upper lower : Bool) → On s → Same s (step (writesSccr0 v upper lower) s)
unfolding step
same_write0 s v upper lower o = by_cond (Same s) (sccr0_guarded s v upper lower) (λ _. same s) (λ g. same_sccr0 s v upper lower o g)

pub same_write1 : (s : Sci) (v : ℕ) (upper lower : Bool) → On s → RE (step (writesSccr1 v upper lower) s).sccr1 ≡ true →
    Same s (step (writesSccr1 v upper lower) s)
unfolding step
same_write1 s v upper lower o =
    by_cond (λ (r : Sci). RE r.sccr1 ≡ true → Same s r) (sccr1_guarded s v upper lower) (λ _ _. same s) (λ g. same_sccr1 s v upper lower o g)

pub same_read : (s : Sci) (scsr scdr : Bool) → Same s (step (reads scsr scdr) s)
unfolding step
same_read s scsr scdr =
    record { framer = refl; last1 = refl; last2 = refl; last3 = refl; sccr0 = refl; prescaler = refl; bits = refl }

clock_on : (x : Bool) (s : Sci) (o : On s) (d : Bool) → leb (2 * SCBR s.sccr0) (s.prescaler + 1) ≡ d → RE (clocked s x).sccr1 ≡ true →
    (clocked s x).receiver.asleep ≡ false → On (clocked s x)
clock_on x s o true e on awake =
    let t : clocked s x ≡ turned true true true s x = turns x s o true (due_now x s o true e) in
    subst On (sym t) (sample_on x s o (subst (λ (r : Sci). RE r.sccr1 ≡ true) t on) (subst (λ (r : Sci). r.receiver.asleep ≡ false) t awake))
clock_on x s o false e on awake = subst On (sym (turns x s o false (due_now x s o false e))) (count_on x s o e)

pub on_step : (e : Step) (s : Sci) → On s → resets e ≡ false → RE (step e s).sccr1 ≡ true → (step e s).receiver.asleep ≡ false → On (step e s)
unfolding step
on_step reset s o n on awake = absurd (true≢false n)
on_step (clock x) s o n on awake = clock_on x s o (leb (2 * SCBR s.sccr0) (s.prescaler + 1)) refl on awake
on_step (reads scsr scdr) s o n on awake = still_on s _ o (same_read s scsr scdr) on awake
on_step (writesSccr0 v upper lower) s o n on awake = still_on s _ o (same_write0 s v upper lower o) on awake
on_step (writesSccr1 v upper lower) s o n on awake = still_on s _ o (same_write1 s v upper lower o on) on awake
on_step (writesScdr v upper lower) s o n on awake = still_on s _ o (same_scdr lower s v upper) on awake
