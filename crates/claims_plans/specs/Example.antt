-- A module, a last write and a host that the laws speak of: the plan of the planner's example loaded in another order, SPCR0 and SPCR1 by one
-- long write, and a host that polls SPSR.
use Rattle.std.specs.Prelude.{◌≡◌, true, false, List, [], ◌∷◌}
use Rattle.qspi.specs.model.Fields.{spe}
use Rattle.qsm.specs.model.Event.{does}
use Rattle.qsm.specs.declared.state.Module.{Module}
use Rattle.qsm.specs.declared.event.Access.TheVariants.{Read, Write}
use Rattle.qsm.specs.declared.event.Event.{Event}
use Rattle.qsm.specs.declared.event.Event.TheVariants.{Hold}
use Rattle.qsm.specs.declared.event.Event.TheVariants as event
use Rattle.tool_plan.specs.Loading.{writing}
use Rattle.tool_plan.specs.Running.{played}
use Rattle.tool_plan.specs.Example.{by_hand, set_up}
use Rattle.claims_plans.specs.Watching.{Watched}
use Rattle.claims_plans.specs.Standing.{Laid}
use Rattle.claims_plans.specs.Converter.{Wired, Parked}

-- SPCR2, then the entries from the last to the first, each command before its word.
abbrev pub almost : Module
almost =
    played
    (writing 2 0x1C 0x000F ∷ writing 1 0x140 0x49 ∷ writing 2 0x120 0x0ABC ∷ writing 1 0x14F 0x83 ∷ writing 2 0x13E 0x005A ∷ [])
    set_up

abbrev pub begun : Module
begun = (does almost (event.Access (Write true 4 0x18 0xB1048404))).state

abbrev pub polling : List Event
polling =
    Hold 0 true 100 ∷ event.Access (Read true 1 0x1F) ∷ Hold 0 true 77 ∷ event.Access (Read true 1 0x1F) ∷ []

pub record Example : Type 0 where
  pub off : spe almost.qspi.registers.spcr1 ≡ false
  pub laid : Laid by_hand begun
  pub whole : begun.qspi.registers.spcr1 ≡ by_hand.spcr1
  pub wired : Wired begun
  pub parked : Parked by_hand begun
  pub watched : Watched begun polling
