-- Since a reset the prescaler's count is below a sample's clocks, wherever samples come.
use mathlib.Core.Path.{◌≡◌, refl, ap, sym, subst, ◌∙◌}
use mathlib.Core.Bool.{Bool, true, false, cond, not, ◌&&◌}
use mathlib.Core.List.{List, [], ◌∷◌}
use Prim.Native.Nat.{ℕ, ◌+◌, ◌*◌, ◌<◌}
use native.Mathlib.Omega.{arith}
use borrow.Author.Tests.{ne_eqb, leb-false}
use lib.Dec.{eqb, leb}
use Rattle.steps.specs.Bits.{merge}
use Rattle.sci.specs.model.Control.{SCBR, RE, sccr0_bits}
use Rattle.sci.specs.model.Serial.{reset_sci, active, due, prescaled, clocked, data_written, sccr0_set, wrote_sccr0, sccr1_word, stopped, with_sccr1, wrote_sccr1, sccr0_guarded, sccr1_guarded}
use Rattle.sci.specs.claims.History.{Step, reset, clock, reads, writesSccr0, writesSccr1, writesScdr, step, run}
use Rattle.sci.specs.declared.serial.Sci.{Sci}
use Rattle.sci.proofs.Sampling.{sample_leaves}
use Rattle.qsm.specs.model.State.{reset_module}
use Rattle.qsm.specs.declared.event.Event.{Event}
use Rattle.claims_histories.specs.History as events
use Rattle.claims_histories.proofs.Lifted.{all, from_reset}

abbrev pub Small : Sci → Type 0
Small s = 0 < 2 * SCBR s.sccr0 → s.prescaler < 2 * SCBR s.sccr0

clock_small : (s : Sci) (x : Bool) → Small s → Small (clocked s x)
unfolding clocked
clock_small s x h = go (active s) (due s) refl
  where
    go : (a d : Bool) → due s ≡ d → Small (cond a (prescaled d s x) s)
    go false d e = h
    go true true e = λ z. omega (arith, z, (sample_leaves s x).prescaler)
    go true false e = λ z.
        let y : leb (2 * SCBR s.sccr0) (s.prescaler + 1) ≡ false =
        sym (ap (λ (b : Bool). not b && leb (2 * SCBR s.sccr0) (s.prescaler + 1)) (ne_eqb (2 * SCBR s.sccr0) 0 (λ v. omega arith))) ∙ e in
        omega (arith, leb-false (2 * SCBR s.sccr0) (s.prescaler + 1) y)

set_small : (b : Bool) (s : Sci) (v : ℕ) → Small s → Small (sccr0_set b s v)
set_small true s v h = h
set_small false s v h = λ z. z

rate_small : (g : Bool) (s : Sci) (v : ℕ) (upper lower : Bool) → Small s → Small (cond g s (wrote_sccr0 s v upper lower))
unfolding wrote_sccr0
rate_small true s v upper lower h = h
rate_small false s v upper lower h =
    set_small (eqb (sccr0_bits (merge s.sccr0 v upper lower)) s.sccr0) s (sccr0_bits (merge s.sccr0 v upper lower)) h

control_small : (g : Bool) (s : Sci) (v : ℕ) (upper lower : Bool) → Small s → Small (cond g s (wrote_sccr1 s v upper lower))
unfolding wrote_sccr1
control_small true s v upper lower h = h
control_small false s v upper lower h = go (RE (merge (sccr1_word s) v upper lower))
  where
    go : (b : Bool) → Small (stopped b (with_sccr1 s (merge (sccr1_word s) v upper lower)))
    go true = h
    go false = h

data_small : (lower : Bool) (s : Sci) (v : ℕ) (upper : Bool) → Small s → Small (data_written lower s v upper)
data_small true s v upper h = h
data_small false s v upper h = h

step_small : (e : Step) (s : Sci) → Small s → Small (step e s)
unfolding step
step_small reset s h = λ z. omega arith
step_small (clock x) s h = clock_small s x h
step_small (reads scsr scdr) s h = h
step_small (writesSccr0 v upper lower) s h = rate_small (sccr0_guarded s v upper lower) s v upper lower h
step_small (writesSccr1 v upper lower) s h = control_small (sccr1_guarded s v upper lower) s v upper lower h
step_small (writesScdr v upper lower) s h = data_small lower s v upper h

run_small : (es : List Step) (s : Sci) → Small s → Small (run es s)
unfolding run
run_small [] s h = h
run_small (e ∷ es) s h = run_small es (step e s) (step_small e s h)

pub since_small : (es : List Event) → Small (events.run es reset_module).sci
since_small es = subst Small (sym (from_reset es)) (run_small (all es reset_module) reset_sci (λ z. omega arith))
