-- Holds clock by clock: in a clock of the one driver's entry MISO may differ, and a hold is its clocks. Assumes nothing.
use mathlib.Core.Path.{◌≡◌, refl, sym, ap, ◌∙◌}
use mathlib.Core.Bool.{Bool, true, false, not, false≢true}
use Prim.Native.Nat.{ℕ, zero, suc, ◌<◌}
use native.Mathlib.Omega.{arith}
use Rattle.steps.specs.Iterate.{iterate}
use Rattle.sci.proofs.Membership.{and_right}
use Rattle.qspi.specs.declared.Qspi.{Qspi}
use Rattle.qsm.specs.model.Event as model
use Rattle.qsm.proofs.Splitting.{one_by_one}
use Rattle.qsm.specs.declared.event.Event.TheVariants as event
use Rattle.drivers.specs.State.{other, owns}
use Rattle.drivers.specs.Event.{played, refuses, step}
use Rattle.drivers.specs.Event as drivers
use Rattle.drivers.specs.declared.state.Driver.{Driver}
use Rattle.drivers.specs.declared.state.Shared.{Shared}
use Rattle.drivers.specs.declared.event.Event.TheVariants.{Hold}
use Rattle.claims_isolation.specs.Running.{entry_runs, running_entry, runs_one_of}
use Rattle.claims_isolation.specs.Twins.{ItsClock, ClockByClock}
use Rattle.claims_isolation.proofs.Reached.{one_owner}
use Rattle.claims_isolation.proofs.Neither.{one_of_entries}
use Rattle.claims_isolation.proofs.Steps.{sharing}

opposite : (a b : Bool) → a ≡ not b → b ≡ true → a ≡ true → ⊥
opposite a true e h k = false≢true (sym e ∙ k)
opposite a false e h k = false≢true h

not_both : (who : Driver) (s : ℕ) (q : Qspi) → runs_one_of (owns s who) q ≡ true → runs_one_of (owns s (other who)) q ≡ true → ⊥
not_both who s q h k =
    opposite (owns s (other who) (running_entry q)) (owns s who (running_entry q)) (one_owner who s (running_entry q) (one_of_entries q))
    (and_right (entry_runs q) _ h) (and_right (entry_runs q) _ k)

only_clock : (who : Driver) (d : Shared) (pins pins' : ℕ) (rxd : Bool) → runs_one_of (owns d.split who) d.qsm.qspi ≡ true → (k : ℕ) →
    k < 1 → runs_one_of (owns d.split (other who)) (model.clocks (model.held d.qsm pins) rxd k).qspi ≡ true → pins ≡ pins'
unfolding model.clocks iterate
only_clock who d pins pins' rxd own zero less runs = absurd (not_both who d.split d.qsm.qspi own runs)
only_clock who d pins pins' rxd own (suc k) less runs = absurd (omega arith)

pub its_clock : ItsClock
its_clock who d pins pins' rxd same own = record { others = same; miso = only_clock who d pins pins' rxd own }

hold_of_holds : (d : Shared) (pins : ℕ) (rxd : Bool) (n : ℕ) →
    (step d (Hold pins rxd n)).state ≡ sharing d (model.step d.qsm (event.Hold pins rxd n)).state
unfolding step refuses drivers.does played
hold_of_holds d pins rxd n = refl

holds_of : (d : Shared) (pins : ℕ) (rxd : Bool) (n : ℕ) →
    iterate n (λ r. (step r (Hold pins rxd 1)).state) d ≡ sharing d (iterate n (λ m. (model.step m (event.Hold pins rxd 1)).state) d.qsm)
unfolding iterate
holds_of d pins rxd zero = refl
holds_of d pins rxd (suc n) =
    ap (λ r. (step r (Hold pins rxd 1)).state) (holds_of d pins rxd n)
    ∙ hold_of_holds (sharing d (iterate n (λ m. (model.step m (event.Hold pins rxd 1)).state) d.qsm)) pins rxd 1

pub clock_by_clock : ClockByClock
clock_by_clock d pins rxd n within =
    hold_of_holds d pins rxd (suc n) ∙ ap (sharing d) (one_by_one d.qsm pins rxd n within) ∙ sym (holds_of d pins rxd (suc n))
