-- The records that a play answered: their events, and the module that these leave.
use Rattle.std.specs.Prelude.{List, [], ◌∷◌, ◌++◌, ◌≡◌, ℕ}
use Rattle.qsm.specs.model.Event.{step}
use Rattle.qsm.specs.declared.state.Module.{Module}
use Rattle.qsm.specs.declared.event.Event.{Event}
use Rattle.trace.specs.Trace.{parsed}
use Rattle.trace.specs.Play.{play}
use Rattle.trace.specs.declared.Parsed.{Parsed}
use Rattle.trace.specs.declared.Parsed.TheVariants.{Record, Unknown, Cut}

-- A whole record has one event.
abbrev pub event_of : Parsed → List Event
event_of (Record e n) = e ∷ []
event_of Unknown = []
event_of Cut = []

unfoldable pub events : List (List ℕ) → List Event
events [] = []
events (r ∷ rs) = event_of (parsed r) ++ events rs

-- Each event gets the module that the one before it left.
unfoldable pub leaves : List Event → Module → Module
leaves [] m = m
leaves (e ∷ es) m = leaves es (step m e).state

-- Wherever a trace stops, its module is the one that the records answered leave.
abbrev pub StateLeft : Type 0
StateLeft = (m : Module) (t : List ℕ) (room : ℕ) → (play m t room).state ≡ leaves (events (play m t room).records) m
