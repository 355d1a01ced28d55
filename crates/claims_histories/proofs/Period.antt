-- A receiver at the start of a sample's clocks: a hold of so many clocks is one sample, and with SCBR 0 no clock is.
use mathlib.Core.Path.{◌≡◌, refl, ap, sym, subst, ◌∙◌}
use mathlib.Core.Bool.{Bool, true, false, cond, not, ◌&&◌, and-false, true≢false}
use mathlib.Core.List.{List, [], ◌∷◌, ◌++◌}
use Prim.Native.Nat.{ℕ, zero, suc, ◌+◌, ◌*◌, ◌<◌}
use native.Mathlib.Omega.{arith}
use lib.Dec.{eqb, leb}
use borrow.Author.Tests.{eq-eqb}
use Rattle.sci.specs.model.Control.{SCBR, RE}
use Rattle.sci.specs.model.Serial.{active, due, sampled, counted, clocked, data_written, sccr0_guarded, sccr1_guarded}
use Rattle.sci.specs.claims.Line.{Op, sample, samples_in}
use Rattle.sci.specs.claims.History.{Step, reset, clock, reads, writesSccr0, writesSccr1, writesScdr, step, run, step_ops, ops, breaks, Unbroken}
use Rattle.sci.specs.declared.serial.Sci.{Sci}
use Rattle.sci.proofs.Sampling.{is_due, not_due, samples, counts, Sampled, sample_leaves, re_active}
use Rattle.sci.proofs.Registers.{clock_registers}
use Rattle.sci.proofs.History.{clocks}

-- On, with count p of P clocks.
pub record Timed (P p : ℕ) (s : Sci) : Type 0 where
  pub on : RE s.sccr1 ≡ true
  pub rate : 2 * SCBR s.sccr0 ≡ P
  pub count : s.prescaler ≡ p

clock_counts : (P p : ℕ) (s : Sci) (x : Bool) → Timed P p s → p + 1 < P → Timed P (p + 1) (clocked s x)
clock_counts P p s x h l =
    let e : clocked s x ≡ counted s = counts s x (re_active s h.on) (not_due s p h.count (omega (arith, h.rate))) in
    subst (Timed P (p + 1)) (sym e) (record { on = h.on; rate = h.rate; count = omega (arith, h.count, h.rate) })

clock_samples : (P p : ℕ) (s : Sci) (x : Bool) → Timed P p s → p + 1 ≡ P → Timed P 0 (clocked s x)
clock_samples P p s x h l =
    let e : clocked s x ≡ sampled s x = samples s x (re_active s h.on) (is_due s p h.count (l ∙ sym h.rate)) in
    let m : Sampled s (sampled s x) = sample_leaves s x in
    subst (Timed P 0) (sym e)
    (record {
      on = ap RE m.sccr1 ∙ h.on;
      rate = ap (λ (v : ℕ). 2 * SCBR v) m.sccr0 ∙ h.rate;
      count = m.prescaler;
    })

-- The rest of a sample's clocks.
pub record Sample (P n : ℕ) (x : Bool) (s : Sci) : Type 0 where
  pub one : ops (clocks n x) s ≡ sample x ∷ []
  pub again : Timed P 0 (run (clocks n x) s)

pub one_sample : (n P p : ℕ) (s : Sci) (x : Bool) → Timed P p s → p + suc n ≡ P → Sample P (suc n) x s
unfolding ops run step
one_sample zero P p s x h e =
    record {
      one = rw (re_active s h.on, is_due s p h.count (e ∙ sym h.rate), h.on);
      again = clock_samples P p s x h e;
    }
one_sample (suc n) P p s x h e =
    let t : Sample P (suc n) x (clocked s x) =
    one_sample n P (p + 1) (clocked s x) x (clock_counts P p s x h (omega arith)) (omega arith) in
    record {
      one = rw (re_active s h.on, not_due s p h.count (omega (arith, h.rate))) t.one;
      again = t.again;
    }

-- With SCBR 0 no sample comes.
none_due : (s : Sci) → SCBR s.sccr0 ≡ 0 → due s ≡ false
none_due s e =
    let z : eqb (2 * SCBR s.sccr0) 0 ≡ true = eq-eqb (2 * SCBR s.sccr0) 0 (omega (arith, e)) in
    ap (λ (b : Bool). not b && leb (2 * SCBR s.sccr0) (s.prescaler + 1)) z

refused_rate : (g : Bool) (s t : Sci) → not g ≡ false → (cond g s t).sccr0 ≡ s.sccr0
refused_rate true s t e = refl
refused_rate false s t e = absurd (true≢false e)

data_rate : (lower : Bool) (s : Sci) (v : ℕ) (upper : Bool) → (data_written lower s v upper).sccr0 ≡ s.sccr0
data_rate true s v upper = refl
data_rate false s v upper = refl

pub step_rate : (e : Step) (s : Sci) → breaks e s ≡ false → (step e s).sccr0 ≡ s.sccr0
unfolding step
step_rate reset s h = absurd (true≢false h)
step_rate (clock x) s h = (clock_registers s x).sccr0
step_rate (reads scsr scdr) s h = refl
step_rate (writesSccr0 v upper lower) s h = refused_rate (sccr0_guarded s v upper lower) s _ h
step_rate (writesSccr1 v upper lower) s h = refused_rate (sccr1_guarded s v upper lower) s _ h
step_rate (writesScdr v upper lower) s h = data_rate lower s v upper

no_clock : (b d r : Bool) (x : Bool) (os : List Op) → d ≡ false → samples_in (cond (b && d && r) (sample x ∷ []) [] ++ os) ≡ samples_in os
no_clock b d r x os e = rw (e, and-false b)

pub no_sample : (es : List Step) (s : Sci) → SCBR s.sccr0 ≡ 0 → Unbroken es s → samples_in (ops es s) ≡ 0
unfolding ops
no_sample [] s z u = refl
no_sample (e ∷ es) s z u = step_none e ∙ no_sample es (step e s) (ap SCBR (step_rate e s u.0) ∙ z) u.1
  where
    step_none : (e : Step) → samples_in (step_ops e s ++ ops es (step e s)) ≡ samples_in (ops es (step e s))
    step_none reset = refl
    step_none (clock x) = no_clock (active s) (due s) (RE s.sccr1) x (ops es (step (clock x) s)) (none_due s z)
    step_none (reads scsr scdr) = refl
    step_none (writesSccr0 v upper lower) = refl
    step_none (writesSccr1 v upper lower) = refl
    step_none (writesScdr v upper lower) = refl
