-- One clock of a serial half: a sample where one is due, else a count.
-- Assumes nothing.
use Prim.Native.Nat.{ℕ, ◌+◌, ◌*◌, ◌<◌}
use mathlib.Core.Path.{◌≡◌, refl, ap, ◌∙◌}
use mathlib.Core.Bool.{Bool, true, false, not, ◌&&◌, ◌||◌, and-false, or-true}
use native.Mathlib.Omega.{arith}
use lib.Dec.{eqb, leb}
use borrow.Author.Tests.{ne_eqb, le-leb, lt-leb}
use Rattle.sci.specs.model.Control.{SCBR, TE, RE, frame_samples}
use Rattle.sci.specs.model.Transmitter.{runs, sent}
use Rattle.sci.specs.model.Parts.{after_sent}
use Rattle.sci.specs.model.Serial.{active, due, heard, sampled, counted, clocked}
use Rattle.sci.specs.declared.serial.Sci.{Sci}
use Rattle.sci.proofs.Sending.{Sending}

-- The prescaler: at its last count a sample is due, and not before.
pub is_due : (s : Sci) (p : ℕ) → s.prescaler ≡ p → p + 1 ≡ 2 * SCBR s.sccr0 → due s ≡ true
is_due s p e h =
    let z : eqb (2 * SCBR s.sccr0) 0 ≡ false = ne_eqb (2 * SCBR s.sccr0) 0 (λ v. omega arith) in
    let y : leb (2 * SCBR s.sccr0) (s.prescaler + 1) ≡ true = le-leb (2 * SCBR s.sccr0) (s.prescaler + 1) (omega arith) in
    rw (z, y)

pub not_due : (s : Sci) (p : ℕ) → s.prescaler ≡ p → p + 1 < 2 * SCBR s.sccr0 → due s ≡ false
not_due s p e h =
    let y : leb (2 * SCBR s.sccr0) (s.prescaler + 1) ≡ false = lt-leb (2 * SCBR s.sccr0) (s.prescaler + 1) (omega arith) in
    ap (λ (b : Bool). not (eqb (2 * SCBR s.sccr0) 0) && b) y ∙ and-false (not (eqb (2 * SCBR s.sccr0) 0))

pub samples : (s : Sci) (x : Bool) → active s ≡ true → due s ≡ true → clocked s x ≡ sampled s x
unfolding clocked
samples s x a d = rw (a, d)

pub counts : (s : Sci) (x : Bool) → active s ≡ true → due s ≡ false → clocked s x ≡ counted s
unfolding clocked
counts s x a d = rw (a, d)

-- A sample leaves the registers, and the transmitter as `sent` leaves it.
pub record Sampled (s r : Sci) : Type 0 where
  pub sccr0 : r.sccr0 ≡ s.sccr0
  pub sccr1 : r.sccr1 ≡ s.sccr1
  pub prescaler : r.prescaler ≡ 0
  pub transmitter : r.transmitter ≡ (sent s.transmitter s.status s.sccr1).transmitter

pub sample_leaves : (s : Sci) (x : Bool) → Sampled s (sampled s x)
unfolding sampled
sample_leaves s x = go (RE s.sccr1)
  where
    go : (b : Bool) → Sampled s (heard b (after_sent s (sent s.transmitter s.status s.sccr1)) x)
    go true = record { sccr0 = refl; sccr1 = refl; prescaler = refl; transmitter = refl }
    go false = record { sccr0 = refl; sccr1 = refl; prescaler = refl; transmitter = refl }

pub te_active : (s : Sci) → TE s.sccr1 ≡ true → active s ≡ true
te_active s e = rw e

pub runs_active : (n w k : ℕ) (s : Sci) → Sending n w k s.transmitter → k < frame_samples n → active s ≡ true
runs_active n w k s h l =
    let e : eqb s.transmitter.left 0 ≡ false = ne_eqb s.transmitter.left 0 (λ z. omega (arith, h.left)) in
    ap (λ (b : Bool). TE s.sccr1 || RE s.sccr1 || not b) e ∙ or-true (TE s.sccr1 || RE s.sccr1)

pub re_active : (s : Sci) → RE s.sccr1 ≡ true → active s ≡ true
re_active s e = ap (λ (b : Bool). TE s.sccr1 || b || runs s.transmitter) e ∙ ap (λ (b : Bool). b || runs s.transmitter) (or-true (TE s.sccr1))
