-- What the laws ask can be met. Assumes nothing.
use mathlib.Core.Path.{◌≡◌, refl}
use mathlib.Core.Bool.{true, false, ◌&&◌, and-false}
use mathlib.Core.List.{[], ◌∷◌}
use Prim.Native.Nat.{ℕ, zero, suc, ◌+◌, ◌<◌}
use native.Mathlib.Omega.{arith}
use lib.ListN.{get_or}
use Rattle.steps.specs.Bits.{bit}
use Rattle.steps.specs.Iterate.{iterate}
use Rattle.qspi.specs.model.Fields.{mstr, spe}
use Rattle.qspi.specs.model.Registers.{reset, write_spcr1}
use Rattle.qspi.specs.model.Queue.{selected, fault_now}
use Rattle.qsm.specs.model.Map.{decode}
use Rattle.qsm.specs.model.Lanes.{in_map}
use Rattle.qsm.specs.model.Own.{put_own, own_unmodelled}
use Rattle.qsm.specs.model.Queue.{put_queue, queue_unmodelled, queue_guarded}
use Rattle.qsm.specs.model.Word.{put, unmodelled, guarded}
use Rattle.qsm.specs.model.Access.{store, stored}
use Rattle.qsm.specs.model.Decision.{admitted, decide_read, stored_by, decide_stored}
use Rattle.qsm.specs.model.State.{reset_module}
use Rattle.qsm.specs.model.Event.{pins_of, held, clock_module, clocks, after_read, holds, reads, writes, does}
use Rattle.qsm.specs.claims.PinClauses.{assigned}
use Rattle.qsm.specs.declared.state.Module.{Module}
use Rattle.qsm.specs.declared.event.Access.TheVariants.{Read}
use Rattle.qsm.specs.declared.event.Event.TheVariants.{Hold}
use Rattle.qsm.specs.declared.event.Event.TheVariants as event
use Rattle.tool_plan.specs.Check.{command_no, sent_no}
use Rattle.tool_plan.specs.Loading.{place_no}
use Rattle.tool_plan.specs.Running.{played}
use Rattle.tool_plan.specs.Example.{by_hand}
use Rattle.claims_plans.specs.Watching.{Watched}
use Rattle.claims_plans.specs.Converter.{Wired}
use Rattle.claims_plans.specs.Example.{begun, polling, Example}

words : (k : ℕ) → k < 2 → get_or begun.qspi.ram.transmit (place_no by_hand k) 0 ≡ sent_no by_hand k
unfolding does writes decide_stored admitted in_map stored_by stored store iterate decode put put_own put_queue write_spcr1 unmodelled guarded own_unmodelled queue_unmodelled queue_guarded reset_module reset
words zero few = refl
words (suc zero) few = refl
words (suc (suc k)) few = absurd (omega arith)

commands : (k : ℕ) → k < 2 → get_or begun.qspi.ram.commands (place_no by_hand k) 0 ≡ command_no by_hand k
unfolding does writes decide_stored admitted in_map stored_by stored store iterate decode put put_own put_queue write_spcr1 unmodelled guarded own_unmodelled queue_unmodelled queue_guarded reset_module reset
commands zero few = refl
commands (suc zero) few = refl
commands (suc (suc k)) few = absurd (omega arith)

wired : Wired begun
unfolding does writes decide_stored admitted in_map stored_by stored store iterate decode put put_own put_queue write_spcr1 unmodelled guarded own_unmodelled queue_unmodelled queue_guarded reset_module reset
wired = record { assigned = four_assigned; output = four_output }
  where
    four_assigned : (i : ℕ) → i < 4 → assigned begun (3 + i) ≡ true
    four_assigned zero few = refl
    four_assigned (suc zero) few = refl
    four_assigned (suc (suc zero)) few = refl
    four_assigned (suc (suc (suc zero))) few = refl
    four_assigned (suc (suc (suc (suc i)))) few = absurd (omega arith)

    four_output : (i : ℕ) → i < 4 → bit (3 + i) begun.ddrqs ≡ true
    four_output zero few = refl
    four_output (suc zero) few = refl
    four_output (suc (suc zero)) few = refl
    four_output (suc (suc (suc zero))) few = refl
    four_output (suc (suc (suc (suc i)))) few = absurd (omega arith)

-- PQS3 is an output: no mode fault, wherever the queue stands.
no_input : (m : Module) (pins : ℕ) → selected (pins_of (held m pins)) ≡ false → fault_now m.qspi (pins_of (held m pins)) ≡ false
no_input m pins h = rw h (and-false (spe m.qspi.registers.spcr1 && mstr m.qspi.registers.spcr0))

-- After the first hold and the first poll.
abbrev polled : Module
polled = played (Hold 0 true 100 ∷ event.Access (Read true 1 0x1F) ∷ []) begun

watched : Watched begun polling
unfolding does holds clocks clock_module reads decide_read after_read writes decide_stored admitted in_map stored_by stored store iterate decode put put_own put_queue write_spcr1 unmodelled guarded own_unmodelled queue_unmodelled queue_guarded reset_module reset
watched = ((refl, λ some. no_input begun 0 refl), (tt, ((refl, λ some. no_input polled 0 refl), (tt, tt))))

pub example : Example
unfolding does writes decide_stored admitted in_map stored_by stored store iterate decode put put_own put_queue write_spcr1 unmodelled guarded own_unmodelled queue_unmodelled queue_guarded reset_module reset
example =
    record {
      off = refl;
      laid =
          record {
            words = words;
            commands = commands;
            spcr0 = refl;
            spcr2 = refl;
            low = refl;
            goes = refl;
            mosi_assigned = refl;
            mosi_output = refl;
          };
      whole = refl;
      wired = wired;
      parked = refl;
      watched = watched;
    }
