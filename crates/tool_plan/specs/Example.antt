-- Set-points, plans, a module and a hold that the laws speak of: two set-points, of 8 and of 12 bits.
use Rattle.std.specs.Prelude.{◌≡◌, true, false, None, MatchOption, [], ◌∷◌, replicate}
use Rattle.qsm.specs.model.State.{reset_module}
use Rattle.qsm.specs.declared.state.Module.{Module}
use Rattle.tool_plan.specs.Check.{accepts}
use Rattle.tool_plan.specs.Quickest.{planned}
use Rattle.tool_plan.specs.Loading.{writing}
use Rattle.tool_plan.specs.Running.{played, Span, Counts, NoFault, Ready, Sized}
use Rattle.tool_plan.specs.declared.SetPoints.{SetPoints}
use Rattle.tool_plan.specs.declared.Plan.{Plan}

abbrev pub points : SetPoints
points =
    record {
      count = 2;
      selects = 3 ∷ 9 ∷ replicate 14 0;
      bits = 8 ∷ 12 ∷ replicate 14 0;
      words = 0x5A ∷ 0xABC ∷ replicate 14 0;
    }

-- SPBR 4, plain delays, CPHA 1, in entries 15 and 0; CONT in the first.
abbrev pub by_hand : Plan
by_hand =
    record {
      clock = 177;
      spcr0 = 0xB104;
      spcr1 = 0x8404;
      spcr2 = 0;
      count = 2;
      first = 15;
      last = 0;
      commands = 0x83 ∷ 0x49 ∷ replicate 14 0;
      words = 0x5A ∷ 0xABC ∷ replicate 14 0;
    }

-- Since a reset: MOSI, SCK and the PCS assigned outputs.
abbrev pub set_up : Module
set_up = played (writing 2 0x16 0x7A7E ∷ []) reset_module

abbrev pub hold : Span
hold = record { pins = 0; rxd = true; clocks = 177 }

pub record Example : Type 0 where
  pub accepted : accepts points 177 by_hand ≡ true
  pub too_late : accepts points 176 by_hand ≡ false
  pub planned_at : MatchOption (planned points 95) ⊥ (λ p. p.clock ≡ 95)
  pub no_plan_holds : planned points 94 ≡ None
  pub sized : Sized by_hand
  pub ready : Ready set_up
  pub counts : Counts set_up (hold ∷ [])
  pub no_fault : NoFault set_up (hold ∷ [])
