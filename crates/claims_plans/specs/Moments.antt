-- A list of holds and reads, clock by clock.
use Rattle.std.specs.Prelude.{◌≡◌, cond, List, [], ◌∷◌, ℕ, ◌-◌, ◌≤◌, leb}
use Rattle.qsm.specs.declared.state.Module.{Module}
use Rattle.qsm.specs.declared.event.Event.{Event}
use Rattle.qsm.specs.declared.event.Event.TheVariants.{Reset, Hold}
use Rattle.qsm.specs.declared.event.Event.TheVariants as event
use Rattle.tool_plan.specs.Running.{played}
use Rattle.claims_plans.specs.Watching.{clocks_in, Watched}

-- The events of the first c clocks: a hold that goes on past them is cut.
abbrev pub cut : ℕ → List Event → List Event
cut c [] = []
cut c (Reset ∷ es) = Reset ∷ cut c es
cut c (Hold pins rxd n ∷ es) = cond (leb n c) (Hold pins rxd n ∷ cut (c - n) es) (Hold pins rxd c ∷ [])
cut c (event.Access a ∷ es) = event.Access a ∷ cut c es

-- The module after c clocks.
abbrev pub moment : Module → List Event → ℕ → Module
moment m es c = played (cut c es) m

-- Such a list, cut, is one, and has c clocks.
abbrev pub CutIsWatched : Type 0
CutIsWatched =
    (m : Module) (es : List Event) (c : ℕ) → Watched m es → c ≤ clocks_in es → Watched m (cut c es) × (clocks_in (cut c es) ≡ c)
