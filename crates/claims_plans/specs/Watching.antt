-- Document 02, L10: a host that only holds and reads: no reset, no write.
use Rattle.std.specs.Prelude.{◌≡◌, false, List, [], ◌∷◌, ℕ, ◌+◌, ◌<◌}
use Rattle.qspi.specs.model.Queue.{fault_now}
use Rattle.qsm.specs.model.Event.{passes, pins_of, held, does}
use Rattle.qsm.specs.declared.state.Module.{Module}
use Rattle.qsm.specs.declared.event.Access.TheVariants.{Read, Write}
use Rattle.qsm.specs.declared.event.Event.{Event}
use Rattle.qsm.specs.declared.event.Event.TheVariants.{Reset, Hold}
use Rattle.qsm.specs.declared.event.Event.TheVariants as event

-- The clocks of an event, and of several.
abbrev pub clocks_of : Event → ℕ
clocks_of Reset = 0
clocks_of (Hold pins rxd n) = n
clocks_of (event.Access a) = 0

abbrev pub clocks_in : List Event → ℕ
clocks_in [] = 0
clocks_in (e ∷ es) = clocks_of e + clocks_in es

-- An event as the module before it finds it: any read, of any width and offset, as supervisor or as user, refused or not; or a hold that is not
-- refused 10 and has no mode fault: it has no clock, or PQS3 isn't an assigned input at low, or SPE is clear already.
abbrev pub Watches : Module → Event → Type 0
Watches m Reset = ⊥
Watches m (Hold pins rxd n) = (passes m n ≡ false) × (0 < n → fault_now m.qspi (pins_of (held m pins)) ≡ false)
Watches m (event.Access (Read supervisor width offset)) = Unit {0}
Watches m (event.Access (Write supervisor width offset value)) = ⊥

-- Each event finds the module that the last one left.
abbrev pub Watched : Module → List Event → Type 0
Watched m [] = Unit {0}
Watched m (e ∷ es) = Watches m e × Watched (does m e).state es
