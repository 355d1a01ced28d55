-- Within a hold the halves don't depend on each other: n clocks of the module are n clocks of each, and n more in its count.
use Prim.Native.Nat.{ℕ, zero, suc, ◌+◌}
use mathlib.Core.Bool.{Bool}
use mathlib.Core.Path.{◌≡◌, ap}
use native.Mathlib.Omega.{arith}
use Rattle.steps.specs.Iterate.{iterate}
use Rattle.sci.specs.model.Serial.{clocked}
use Rattle.qspi.specs.model.Queue.{clock}
use Rattle.qsm.specs.model.State.{with_sci, with_qspi}
use Rattle.qsm.specs.model.Event.{clock_module, pins_of}
use Rattle.qsm.specs.declared.state.Module.{Module}

-- The module with another count of clocks.
abbrev pub counting : Module → ℕ → Module
counting m n =
    record {
      sci = m.sci;
      qspi = m.qspi;
      qsmcr = m.qsmcr;
      qilr = m.qilr;
      qivr = m.qivr;
      portqs = m.portqs;
      pqspar = m.pqspar;
      ddrqs = m.ddrqs;
      inputs = m.inputs;
      clock = n;
    }

pub apart : (n : ℕ) (rxd : Bool) (m : Module) →
    iterate n (clock_module rxd) m
    ≡ counting (with_sci (with_qspi m (iterate n (λ q. clock q (pins_of m)) m.qspi)) (iterate n (λ s. clocked s rxd) m.sci)) (m.clock + n)
unfolding iterate clock_module
apart zero rxd m = let same : m.clock + 0 ≡ m.clock = omega arith in rw same
apart (suc n) rxd m =
    let more : m.clock + suc n ≡ suc (m.clock + n) = omega arith in
    rw more (ap (clock_module rxd) (apart n rxd m))
