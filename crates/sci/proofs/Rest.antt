-- Where samples change nothing a round of the prescaler leaves what it found, so whole rounds can be taken out.
use Prim.Native.Nat.{ℕ, zero, suc, ◌-◌, ◌*◌, ◌%◌, ◌≤◌, ◌<◌}
use mathlib.Core.Bool.{Bool, true, false, not, cond, ◌&&◌, ◌||◌, false≢true}
use mathlib.Core.Path.{◌≡◌, refl, ap, sym, ◌∙◌}
use native.Mathlib.Nat.{mod-le}
use native.Mathlib.Omega.{arith}
use lib.Dec.{eqb}
use borrow.Author.Tests.{eqb-false, ne_eqb, not-true}
use Rattle.steps.specs.Iterate.{iterate}
use Rattle.steps.proofs.Iterate.{iterate_period}
use Rattle.sci.specs.model.Control.{SCBR, TE, RE, M, bits_of}
use Rattle.sci.specs.model.Receiver.{received}
use Rattle.sci.specs.model.Parts.{after_received, after_sent}
use Rattle.sci.specs.model.Serial.{active, heard, sampled, clocked}
use Rattle.sci.specs.quick.Quiet.{quiet, with_count, sender_rests, receiver_rests, rests, shortened}
use Rattle.sci.specs.declared.receiver.Received.{Received}
use Rattle.sci.specs.declared.transmitter.Sent.{Sent}
use Rattle.sci.specs.declared.serial.Sci.{Sci}
use Rattle.sci.proofs.Plain.{first, second}
use Rattle.sci.proofs.Resting.{hears_nothing, counts_nothing, sends_nothing}
use Rattle.sci.proofs.Quiet.{plays}

-- What rest says of the half.
record Rest (s : Sci) (x : Bool) : Type 0 where
  hears : RE s.sccr1 ≡ true → receiver_rests x s.receiver (bits_of (M s.sccr1)) ≡ true
  sends : sender_rests s.transmitter s.status s.sccr1 ≡ true
  on : (RE s.sccr1 || TE s.sccr1) ≡ true
  some : eqb (SCBR s.sccr0) 0 ≡ false

if_heard : (re rest : Bool) → not (re && not rest) ≡ true → re ≡ true → rest ≡ true
if_heard true true h e = refl
if_heard true false h e = h
if_heard false rest h e = absurd (false≢true e)

rest : (s : Sci) (x : Bool) → rests s x ≡ true → Rest s x
unfolding rests
rest s x h =
    let sends : Bool = sender_rests s.transmitter s.status s.sccr1 in
    let hears : Bool = receiver_rests x s.receiver (bits_of (M s.sccr1)) in
    let heard : Bool = not (RE s.sccr1 && not hears) in
    let on : Bool = RE s.sccr1 || TE s.sccr1 in
    let a : _ = first (heard && sends && on) (not (eqb (SCBR s.sccr0) 0)) h in
    let b : _ = first (heard && sends) on a in
    record {
      hears = if_heard (RE s.sccr1) hears (first heard sends b);
      sends = second heard sends b;
      on = second (heard && sends) on a;
      some = not-true (eqb (SCBR s.sccr0) 0) (second (heard && sends && on) _ h);
    }

-- A sample leaves it as it is, but for the prescaler's count.
module _ (s : Sci) (x : Bool) (r : Rest s x) where
  unheard : (re : Bool) → (re ≡ true → receiver_rests x s.receiver (bits_of (M s.sccr1)) ≡ true) →
      heard re (with_count s 0) x ≡ with_count s 0
  unheard true h =
      ap (after_received (with_count s 0) (received s.receiver s.status s.sccr1 x))
      (counts_nothing s.account s.receiver s.status s.sccr1 x (h refl))
      ∙ ap (λ (q : Received). after_received (with_count s 0) q s.account)
      (hears_nothing s.receiver s.status s.sccr1 x (h refl))
  unheard false h = refl

  leaves : sampled s x ≡ with_count s 0
  unfolding sampled
  leaves =
      ap (λ (t : Sent). heard (RE s.sccr1) (after_sent s t) x) (sends_nothing s.transmitter s.status s.sccr1 r.sends)
      ∙ unheard (RE s.sccr1) r.hears

  runs_on : active s ≡ true
  runs_on = go (TE s.sccr1) (RE s.sccr1) _ r.on
    where
      go : (te re other : Bool) → (re || te) ≡ true → (te || re || other) ≡ true
      go true re other h = refl
      go false true other h = refl
      go false false other h = absurd (false≢true h)

  round : s.prescaler ≡ 0 → iterate (2 * SCBR s.sccr0) (λ s. clocked s x) s ≡ s
  unfolding quiet
  round z =
      let some : SCBR s.sccr0 ≡ 0 → ⊥ = eqb-false (SCBR s.sccr0) 0 r.some in
      let none : eqb (2 * SCBR s.sccr0) 0 ≡ false = ne_eqb (2 * SCBR s.sccr0) 0 (λ e. some (omega arith)) in
      let clocks : quiet s ≡ 2 * SCBR s.sccr0 - 1 = rw (runs_on, none) (omega arith) in
      let all : 2 * SCBR s.sccr0 ≡ suc (quiet s) = omega arith in
      ap (λ (k : ℕ). iterate k (λ s. clocked s x) s) all ∙ plays s x (omega arith) (omega arith)
      ∙ leaves ∙ ap (with_count s) (sym z)

positive : (n : ℕ) → (n ≡ 0 → ⊥) → 0 < 2 * n
positive zero h = absurd (h refl)
positive (suc n) h = omega arith

pub rounds_last : (s : Sci) (x : Bool) → rests s x ≡ true → 0 < 2 * SCBR s.sccr0
rounds_last s x h = positive (SCBR s.sccr0) (eqb-false (SCBR s.sccr0) 0 (rest s x h).some)

-- So a sample at rest leaves the half as it was, but for the prescaler's count.
pub rest_sampled : (s : Sci) (x : Bool) → rests s x ≡ true → sampled s x ≡ with_count s 0
rest_sampled s x h = leaves s x (rest s x h)

pub shortened_less : (n : ℕ) (s : Sci) (x : Bool) → shortened s n x ≤ n
shortened_less n s x = go (rests s x) _
  where
    go : (b : Bool) (p : ℕ) → cond b (n % p) n ≤ n
    go true p = mod-le n p
    go false p = omega arith

-- From a sample on, n clocks leave what `shortened` of them leave.
pub shortens : (n : ℕ) (s : Sci) (x : Bool) → s.prescaler ≡ 0 →
    iterate (shortened s n x) (λ s. clocked s x) s ≡ iterate n (λ s. clocked s x) s
shortens n s x z = go (rests s x) refl
  where
    go : (b : Bool) → rests s x ≡ b →
        iterate (cond b (n % (2 * SCBR s.sccr0)) n) (λ s. clocked s x) s ≡ iterate n (λ s. clocked s x) s
    go true e =
        sym (iterate_period n (2 * SCBR s.sccr0) (λ s. clocked s x) s (rounds_last s x e) (round s x (rest s x e) z))
    go false e = refl
