-- What the laws ask can be met. Assumes nothing.
use mathlib.Core.Path.{◌≡◌, refl}
use mathlib.Core.List.{[], ◌∷◌}
use Prim.Native.Nat.{ℕ, zero, suc, ◌<◌}
use native.Mathlib.Omega.{arith}
use lib.ListN.{get_or, replicate}
use Rattle.steps.specs.Iterate.{iterate}
use Rattle.qspi.specs.model.Fields.{bits_of, pre_delay, delay_after}
use Rattle.qspi.specs.model.Registers.{reset}
use Rattle.qsm.specs.model.Map.{decode}
use Rattle.qsm.specs.model.Lanes.{in_map}
use Rattle.qsm.specs.model.Own.{put_own, own_unmodelled}
use Rattle.qsm.specs.model.Word.{put, unmodelled, guarded}
use Rattle.qsm.specs.model.Access.{store, stored}
use Rattle.qsm.specs.model.Decision.{admitted, stored_by, decide_stored}
use Rattle.qsm.specs.model.State.{reset_module}
use Rattle.qsm.specs.model.Event.{writes, does}
use Rattle.tool_plan.specs.Check.{each, proper, clock_before, accepts}
use Rattle.tool_plan.specs.Quickest.{commands_of, other_count, proposal, if_accepted}
use Rattle.tool_plan.specs.Running.{Ready, Counts, NoFault}
use Rattle.tool_plan.specs.Example.{by_hand, set_up, hold, Example}

all_zero : (n i : ℕ) → get_or {A = ℕ} (replicate n 0) i 0 ≡ 0
all_zero zero i = refl
all_zero (suc n) zero = refl
all_zero (suc n) (suc i) = all_zero n i

command_small : (i : ℕ) → get_or by_hand.commands i 0 < 256
command_small zero = omega arith
command_small (suc zero) = omega arith
command_small (suc (suc i)) = omega (arith, all_zero 14 i)

ready : Ready set_up
unfolding does writes decide_stored admitted in_map stored_by stored store iterate decode put put_own unmodelled guarded own_unmodelled reset_module reset
ready =
    record {
      off = refl;
      low = refl;
      goes = refl;
      mosi_assigned = refl;
      mosi_output = refl;
      words = refl;
      commands = refl;
      bytes = λ i. omega (arith, all_zero 16 i);
    }

no_fault : NoFault set_up (hold ∷ [])
unfolding does writes decide_stored admitted in_map stored_by stored store iterate decode put put_own unmodelled guarded own_unmodelled reset_module reset
no_fault = (refl, tt)

counts : Counts set_up (hold ∷ [])
unfolding does writes decide_stored admitted in_map stored_by stored store iterate decode put put_own unmodelled guarded own_unmodelled reset_module reset
counts = let none : set_up.clock ≡ 0 = refl in omega (arith, none)

pub example : Example
unfolding each proper clock_before accepts commands_of other_count proposal if_accepted bits_of pre_delay delay_after
example =
    record {
      accepted = refl;
      too_late = refl;
      planned_at = refl;
      no_plan_holds = refl;
      sized = record { spcr0 = omega arith; spcr1 = omega arith; spcr2 = omega arith; commands = command_small };
      ready = ready;
      counts = counts;
      no_fault = no_fault;
    }
