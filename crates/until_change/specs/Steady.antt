-- Clocks after which an answer shows what it shows after the first of them. (proofs/Steady shows it of the module.)
use Rattle.std.specs.Prelude.{Bool, true, cond, ◌||◌, ◌≡◌, ℕ, max, min, eqb}
use Rattle.steps.specs.Iterate.{iterate}
use Rattle.sci.specs.model.Serial.{clocked}
use Rattle.sci.specs.quick.Quiet.{quiet, rests}
use Rattle.sci.specs.declared.serial.Sci.{Sci}
use Rattle.qspi.specs.model.Queue.{clock}
use Rattle.qspi.specs.quick.Quiet as queue
use Rattle.qsm.specs.model.State.{with_sci, with_qspi}
use Rattle.qsm.specs.model.Event.{pins_of}
use Rattle.qsm.specs.declared.state.Module.{Module}

-- n clocks of both halves.
abbrev pub ahead : ℕ → Bool → Module → Module
ahead n rxd m =
    with_sci (with_qspi m (iterate n (λ q. clock q (pins_of m)) m.qspi)) (iterate n (λ s. clocked s rxd) m.sci)

-- At rest samples change nothing; else none comes in the quiet clocks.
abbrev pub serial_steady : Sci → Bool → ℕ
serial_steady s rxd = cond (rests s rxd) 4294967295 (quiet s)

abbrev pub steady : Module → Bool → ℕ
steady m rxd = max 1 (min (queue.quiet m.qspi (pins_of m)) (serial_steady m.sci rxd))

-- At rest, or with no sample to come in any hold.
abbrev pub serial_still : Sci → Bool → Bool
serial_still s rxd = rests s rxd || eqb (quiet s) 4294967295

-- What follows b is known from what followed a.
abbrev pub Returned : Module → Module → Bool → Type 0
Returned a b rxd = (serial_still a.sci rxd ≡ true) × (a.qspi ≡ b.qspi)
