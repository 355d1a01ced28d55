-- The clocks of samples: since reset a module has counted at least as many as its samples have had. Assumes nothing.
use mathlib.Core.Path.{◌≡◌, refl, ap, subst, ◌∙◌}
use mathlib.Core.Bool.{Bool, true, false, cond, not, ◌&&◌}
use mathlib.Core.List.{List, [], ◌∷◌, ◌++◌}
use Prim.Native.Nat.{ℕ, zero, suc, ◌+◌, ◌*◌, ◌≤◌}
use native.Mathlib.Nat.{add-mul}
use native.Mathlib.Omega.{arith}
use lib.Dec.{eqb, leb}
use borrow.Author.Tests.{leb-true}
use Rattle.steps.specs.Bits.{merge}
use Rattle.sci.specs.model.Control.{SCBR, RE, sccr0_bits}
use Rattle.sci.specs.model.Serial.{active, due, prescaled, clocked, sccr1_word, with_sccr1, stopped, sccr0_set, loaded, wrote_sccr0, wrote_sccr1, sccr0_guarded, sccr1_guarded}
use Rattle.sci.specs.claims.Line.{Op, sample, read, samples_in}
use Rattle.sci.specs.claims.History.{Step, reset, clock, reads, writesSccr0, writesSccr1, writesScdr, step, step_ops, Unbroken}
use Rattle.sci.specs.claims.History as sci
use Rattle.sci.specs.declared.serial.Sci.{Sci}
use Rattle.sci.proofs.Sampling.{sample_leaves}
use Rattle.sci.proofs.History.{clocks}
use Rattle.claims_histories.proofs.Follows.{and_right}
use Rattle.claims_histories.proofs.Given.{Accesses, AllAccesses}
use Rattle.claims_histories.proofs.Period.{step_rate}

abbrev step_clocks : Step → ℕ
step_clocks reset = 0
step_clocks (clock x) = 1
step_clocks (reads scsr scdr) = 0
step_clocks (writesSccr0 v upper lower) = 0
step_clocks (writesSccr1 v upper lower) = 0
step_clocks (writesScdr v upper lower) = 0

abbrev pub clocks_in : List Step → ℕ
clocks_in [] = 0
clocks_in (e ∷ es) = step_clocks e + clocks_in es

pub clocks_append : (es fs : List Step) → clocks_in (es ++ fs) ≡ clocks_in es + clocks_in fs
clocks_append [] fs = omega arith
clocks_append (e ∷ es) fs = omega (arith, clocks_append es fs)

pub clocks_in_holds : (n : ℕ) (x : Bool) → clocks_in (clocks n x) ≡ n
clocks_in_holds zero x = refl
clocks_in_holds (suc n) x = omega (arith, clocks_in_holds n x)

-- Accesses take none.
access_none : (e : Step) → Accesses e → step_clocks e ≡ 0
access_none reset h = absurd h
access_none (clock x) h = absurd h
access_none (reads scsr scdr) h = refl
access_none (writesSccr0 v upper lower) h = refl
access_none (writesSccr1 v upper lower) h = refl
access_none (writesScdr v upper lower) h = refl

pub accesses_none : (es : List Step) → AllAccesses es → clocks_in es ≡ 0
accesses_none [] h = refl
accesses_none (e ∷ es) h = omega (arith, access_none e h.0, accesses_none es h.1)

-- ---- one step

-- The clocks of a sample.
abbrev pub period : Sci → ℕ
period s = 2 * SCBR s.sccr0

due_after : (s : Sci) → due s ≡ true → period s ≤ s.prescaler + 1
due_after s d = leb-true (period s) (s.prescaler + 1) (and_right (not (eqb (period s) 0)) (leb (period s) (s.prescaler + 1)) d)

clock_bound : (a d r : Bool) (s : Sci) (x : Bool) → (d ≡ true → period s ≤ s.prescaler + 1) →
    samples_in (cond (a && d && r) (sample x ∷ []) []) * period s + (cond a (prescaled d s x) s).prescaler ≤ s.prescaler + 1
clock_bound true true true s x h = omega (arith, h refl, (sample_leaves s x).prescaler)
clock_bound true true false s x h = omega (arith, (sample_leaves s x).prescaler)
clock_bound true false r s x h = omega arith
clock_bound false d r s x h = omega arith

rate_kept : (g same : Bool) (s : Sci) (v : ℕ) → (cond g s (sccr0_set same s v)).prescaler ≤ s.prescaler
rate_kept true same s v = omega arith
rate_kept false true s v = omega arith
rate_kept false false s v = omega arith

control_kept : (g on : Bool) (s : Sci) (v : ℕ) → (cond g s (stopped on (with_sccr1 s v))).prescaler ≡ s.prescaler
control_kept true on s v = refl
control_kept false true s v = refl
control_kept false false s v = refl

data_kept : (lower : Bool) (s : Sci) (v : ℕ) (upper : Bool) → (cond lower (loaded s v upper) s).prescaler ≡ s.prescaler
data_kept true s v upper = refl
data_kept false s v upper = refl

pub step_bound : (e : Step) (s : Sci) → samples_in (step_ops e s) * period s + (step e s).prescaler ≤ s.prescaler + step_clocks e
unfolding step clocked wrote_sccr0 wrote_sccr1
step_bound reset s = omega arith
step_bound (clock x) s = clock_bound (active s) (due s) (RE s.sccr1) s x (due_after s)
step_bound (reads scsr scdr) s = omega arith
step_bound (writesSccr0 v upper lower) s =
    let new : ℕ = sccr0_bits (merge s.sccr0 v upper lower) in
    omega (arith, rate_kept (sccr0_guarded s v upper lower) (eqb new s.sccr0) s new)
step_bound (writesSccr1 v upper lower) s =
    let new : ℕ = merge (sccr1_word s) v upper lower in
    omega (arith, control_kept (sccr1_guarded s v upper lower) (RE new) s new)
step_bound (writesScdr v upper lower) s = omega (arith, data_kept lower s v upper)

-- ---- several

pub samples_append : (os ps : List Op) → samples_in (os ++ ps) ≡ samples_in os + samples_in ps
samples_append [] ps = omega arith
samples_append (sample x ∷ os) ps = omega (arith, samples_append os ps)
samples_append (read scsr scdr ∷ os) ps = samples_append os ps

pub run_bound : (es : List Step) (s : Sci) → (sci.run es s).prescaler ≤ s.prescaler + clocks_in es
unfolding sci.run
run_bound [] s = omega arith
run_bound (e ∷ es) s = omega (arith, run_bound es (step e s), step_bound e s)

pub run_rate : (es : List Step) (s : Sci) → Unbroken es s → period (sci.run es s) ≡ period s
unfolding sci.run
run_rate [] s u = refl
run_rate (e ∷ es) s u = run_rate es (step e s) u.1 ∙ ap (λ (v : ℕ). 2 * SCBR v) (step_rate e s u.0)

pub samples_bound : (es : List Step) (s : Sci) → Unbroken es s →
    samples_in (sci.ops es s) * period s + (sci.run es s).prescaler ≤ s.prescaler + clocks_in es
unfolding sci.run sci.ops
samples_bound [] s u = omega arith
samples_bound (e ∷ es) s u =
    let rest : ℕ = samples_in (sci.ops es (step e s)) in
    let same : period (step e s) ≡ period s = ap (λ (v : ℕ). 2 * SCBR v) (step_rate e s u.0) in
    let later : rest * period s + (sci.run es (step e s)).prescaler ≤ (step e s).prescaler + clocks_in es =
    subst (λ (p : ℕ). rest * p + (sci.run es (step e s)).prescaler ≤ (step e s).prescaler + clocks_in es) same
    (samples_bound es (step e s) u.1) in
    let sum : samples_in (step_ops e s ++ sci.ops es (step e s)) * period s ≡ samples_in (step_ops e s) * period s + rest * period s =
    ap (λ (n : ℕ). n * period s) (samples_append (step_ops e s) (sci.ops es (step e s))) ∙ add-mul (samples_in (step_ops e s)) rest (period s) in
    omega (arith, sum, later, step_bound e s)
