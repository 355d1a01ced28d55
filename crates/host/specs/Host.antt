-- Document 01: the host holds one module and changes it in place.
use Rattle.std.specs.Prelude.{Bool, ◌≡◌, ℕ}
use Rattle.qsm.specs.model.Event.{step}
use Rattle.qsm.specs.declared.state.Module.{Module}
use Rattle.qsm.specs.declared.event.Access.TheVariants.{Read, Write}
use Rattle.qsm.specs.declared.event.Answer.{Answer}
use Rattle.qsm.specs.declared.event.Event.{Event}
use Rattle.qsm.specs.declared.event.Event.TheVariants as event

-- A call of an entry with an event, on m: the module that it leaves and its answer are the step's.
abbrev pub Applied : Module → Event → Module → Answer → Type 0
Applied m e left answer = (left ≡ (step m e).state) × (answer ≡ (step m e).answer)

-- The events of a read and of a write.
abbrev pub read_event : Bool → ℕ → ℕ → Event
read_event supervisor width offset = event.Access (Read supervisor width offset)

abbrev pub write_event : Bool → ℕ → ℕ → ℕ → Event
write_event supervisor width offset value = event.Access (Write supervisor width offset value)
