-- Clocks that bring no sample: k of them are one sum, and the clock after the last of them is a sample.
use Prim.Native.Nat.{ℕ, zero, suc, ◌+◌, ◌-◌, ◌*◌, ◌≤◌, ◌<◌, min}
use mathlib.Core.Bool.{Bool, true, false, not, cond, ◌&&◌}
use mathlib.Core.Path.{◌≡◌, refl, ap, sym, ◌∙◌}
use native.Mathlib.Omega.{arith}
use lib.Dec.{eqb, leb}
use borrow.Author.Tests.{le-leb, lt-leb}
use Rattle.steps.specs.Iterate.{iterate}
use Rattle.steps.proofs.Iterate.{iterate_add, iterate_fixed}
use Rattle.sci.specs.model.Control.{SCBR, RE}
use Rattle.sci.specs.model.Transmitter.{sent}
use Rattle.sci.specs.model.Parts.{after_sent}
use Rattle.sci.specs.model.Serial.{active, heard, sampled, clocked}
use Rattle.sci.specs.quick.Quiet.{until_due, quiet, with_count, skipped}
use Rattle.sci.specs.declared.serial.Sci.{Sci}

-- The test of a period against a count, before a sample and at it.
early : (period p q k : ℕ) (b : Bool) → eqb period 0 ≡ b → suc k ≤ cond b 4294967295 (period - 1 - p) → q ≤ p + k →
    (not (eqb period 0) && leb period (q + 1)) ≡ false
early period p q k true e h l = rw e
early period p q k false e h l = rw (e, lt-leb period (q + 1) (omega arith))

late : (period p : ℕ) (b : Bool) → eqb period 0 ≡ b → period ≤ 65536 → cond b 4294967295 (period - 1 - p) < 4294967295 →
    (not (eqb period 0) && leb period (min 65535 (p + cond b 4294967295 (period - 1 - p)) + 1)) ≡ true
late period p true e l h = absurd (omega arith)
late period p false e l h = rw (e, le-leb period (min 65535 (p + (period - 1 - p)) + 1) (omega arith))

counts : (k : ℕ) (s : Sci) (x : Bool) → active s ≡ true → suc k ≤ until_due s →
    clocked (with_count s (min 65535 (s.prescaler + k))) x ≡ with_count s (min 65535 (s.prescaler + suc k))
unfolding clocked
counts k s x a h =
    let more : min 65535 (min 65535 (s.prescaler + k) + 1) ≡ min 65535 (s.prescaler + suc k) = omega arith in
    rw (a, early (2 * SCBR s.sccr0) s.prescaler (min 65535 (s.prescaler + k)) k (eqb (2 * SCBR s.sccr0) 0) refl h (omega arith), more)

running : (k : ℕ) (s : Sci) (x : Bool) → s.prescaler ≤ 65535 → active s ≡ true → k ≤ until_due s →
    iterate k (λ s. clocked s x) s ≡ with_count s (min 65535 (s.prescaler + k))
unfolding iterate
running zero s x f a h =
    let same : min 65535 (s.prescaler + 0) ≡ s.prescaler = omega arith in
    rw same
running (suc k) s x f a h =
    let below : k ≤ until_due s = omega arith in
    ap (λ (t : Sci). clocked t x) (running k s x f a below) ∙ counts k s x a h

rests : (s : Sci) (x : Bool) → active s ≡ false → clocked s x ≡ s
unfolding clocked
rests s x a = rw a

-- Up to `quiet` clocks are `skipped`.
pub skips : (k : ℕ) (s : Sci) (x : Bool) → s.prescaler ≤ 65535 → k ≤ quiet s → iterate k (λ s. clocked s x) s ≡ skipped k s
unfolding quiet skipped
skips k s x f h = go (active s) refl h
  where
    go : (b : Bool) → active s ≡ b → k ≤ cond b (until_due s) 4294967295 →
        iterate k (λ s. clocked s x) s ≡ cond b (with_count s (min 65535 (s.prescaler + k))) s
    go true a h = running k s x f a h
    go false a h = iterate_fixed k (λ s. clocked s x) s (rests s x a)

-- The clock after them is a sample, and it forgets the count.
due_next : (s : Sci) (x : Bool) → quiet s < 4294967295 → clocked (skipped (quiet s) s) x ≡ sampled s x
unfolding quiet skipped clocked sampled
due_next s x h = go (active s) refl h
  where
    go : (b : Bool) → active s ≡ b → cond b (until_due s) 4294967295 < 4294967295 →
        clocked (cond b (with_count s (min 65535 (s.prescaler + cond b (until_due s) 4294967295))) s) x ≡ sampled s x
    go true a h = rw (a, late (2 * SCBR s.sccr0) s.prescaler (eqb (2 * SCBR s.sccr0) 0) refl (omega arith) h)
    go false a h = absurd (omega arith)

pub plays : (s : Sci) (x : Bool) → s.prescaler ≤ 65535 → quiet s < 4294967295 →
    iterate (suc (quiet s)) (λ s. clocked s x) s ≡ sampled s x
unfolding iterate
plays s x f h = ap (λ (t : Sci). clocked t x) (skips (quiet s) s x f (omega arith)) ∙ due_next s x h

-- A turn of the loop over n clocks: to the next sample.
pub turn : (n : ℕ) (s : Sci) (x : Bool) → s.prescaler ≤ 65535 → n ≤ 4294967295 → quiet s < n →
    iterate (n - (quiet s + 1)) (λ s. clocked s x) (sampled s x) ≡ iterate n (λ s. clocked s x) s
turn n s x f fits h =
    let all : n - (quiet s + 1) + suc (quiet s) ≡ n = omega arith in
    ap (iterate (n - (quiet s + 1)) (λ s. clocked s x)) (sym (plays s x f (omega arith)))
    ∙ sym (iterate_add (n - (quiet s + 1)) (suc (quiet s)) (λ s. clocked s x) s)
    ∙ ap (λ (m : ℕ). iterate m (λ s. clocked s x) s) all

pub restarts : (s : Sci) (x : Bool) → (sampled s x).prescaler ≡ 0
unfolding sampled
restarts s x = go (RE s.sccr1)
  where
    go : (b : Bool) → (heard b (after_sent s (sent s.transmitter s.status s.sccr1)) x).prescaler ≡ 0
    go true = refl
    go false = refl
