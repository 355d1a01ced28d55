-- Document 02, L11: lists of events of a host and two drivers, and the module's events that they come to.
use Rattle.std.specs.Prelude.{cond, List, [], ◌∷◌, ◌++◌}
use Rattle.qsm.specs.declared.event.Event as below
use Rattle.qsm.specs.declared.event.Event.TheVariants as event
use Rattle.drivers.specs.Event.{step}
use Rattle.drivers.specs.Claims.{nine}
use Rattle.drivers.specs.declared.state.Shared.{Shared}
use Rattle.drivers.specs.declared.event.Event.{Event}
use Rattle.drivers.specs.declared.event.Event.TheVariants.{Reset, Hold, Access, Drive, Claim, Release}

-- Each event gets the state that the last one left.
abbrev pub left : List Event → Shared → Shared
left [] d = d
left (e ∷ es) d = left es (step d e).state

-- What an event is to the module: a claim or a release is nothing to it.
abbrev pub own : Event → List below.Event
own (Reset s) = event.Reset ∷ []
own (Hold pins rxd n) = event.Hold pins rxd n ∷ []
own (Access a) = event.Access a ∷ []
own (Drive who a) = event.Access a ∷ []
own (Claim who) = []
own (Release who) = []

-- What is refused 9 doesn't come to it.
abbrev pub comes_to : Shared → Event → List below.Event
comes_to d e = cond (nine d e) [] (own e)

unfoldable pub drives : List Event → Shared → List below.Event
drives [] d = []
drives (e ∷ es) d = comes_to d e ++ drives es (step d e).state
