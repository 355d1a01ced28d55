-- The host holds the shared module and changes it in place: what a call leaves and answers.
use Rattle.std.specs.Prelude.{Bool, ◌≡◌, ℕ}
use Rattle.qsm.specs.declared.event.Access.TheVariants.{Read, Write}
use Rattle.qsm.specs.declared.event.Answer.{Answer}
use Rattle.drivers.specs.State.{driver_of}
use Rattle.drivers.specs.Event.{step}
use Rattle.drivers.specs.declared.state.Shared.{Shared}
use Rattle.drivers.specs.declared.event.Event.{Event}
use Rattle.drivers.specs.declared.event.Event.TheVariants.{Access, Drive}

-- A call of an entry with an event, on d: the state that it leaves and its answer are the step's.
abbrev pub Applied : Shared → Event → Shared → Answer → Type 0
Applied d e left answer = (left ≡ (step d e).state) × (answer ≡ (step d e).answer)

-- The host's own accesses, and a driver's.
abbrev pub host_read : Bool → ℕ → ℕ → Event
host_read supervisor width offset = Access (Read supervisor width offset)

abbrev pub host_write : Bool → ℕ → ℕ → ℕ → Event
host_write supervisor width offset value = Access (Write supervisor width offset value)

abbrev pub driver_read : Bool → Bool → ℕ → ℕ → Event
driver_read spindle supervisor width offset = Drive (driver_of spindle) (Read supervisor width offset)

abbrev pub driver_write : Bool → Bool → ℕ → ℕ → ℕ → Event
driver_write spindle supervisor width offset value = Drive (driver_of spindle) (Write supervisor width offset value)
