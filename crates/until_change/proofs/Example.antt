-- The example computes. Assumes nothing.
use mathlib.Core.Bool.{Bool, true, false}
use mathlib.Core.Path.{◌≡◌, refl, ap, ◌∙◌}
use Prim.Native.Nat.{ℕ, zero, suc, ◌+◌, ◌-◌, ◌<◌, ◌≤◌}
use native.Mathlib.Omega.{arith}
use Rattle.std.specs.Prelude.{Some, None}
use Rattle.steps.specs.Iterate.{iterate}
use Rattle.sci.specs.model.Serial.{clocked}
use Rattle.sci.specs.model.Status.{has}
use Rattle.sci.specs.quick.Quiet.{quiet, rests}
use Rattle.qspi.specs.model.Fields.{bits_of, pre_delay, delay_after}
use Rattle.qspi.specs.model.Entry.{mosi_after, collected_after}
use Rattle.qspi.specs.model.Registers.{reset, write_spcr1}
use Rattle.qspi.specs.model.Queue.{edge, play_clock, start_clock, clock, queue_clock}
use Rattle.qsm.specs.model.State.{reset_module}
use Rattle.qsm.specs.model.Map.{decode}
use Rattle.qsm.specs.model.Lanes.{in_map, is_restricted}
use Rattle.qsm.specs.model.Queue.{peek_queue, put_queue, queue_unmodelled, queue_guarded}
use Rattle.qsm.specs.model.Word.{peek, put, unmodelled, guarded}
use Rattle.qsm.specs.model.Access.{store, stored}
use Rattle.qsm.specs.model.Decision.{admitted, stored_by, decide_stored}
use Rattle.qsm.specs.model.Pins.{mask, owned, own_levels, levels}
use Rattle.qsm.specs.model.Request.{request}
use Rattle.qsm.specs.model.Event.{answer_of, clock_limit, clock_module, clocks, held, refused, writes, does}
use Rattle.until_change.specs.Change.{look, differs, first_of, until_change}
use Rattle.until_change.specs.Steady.{ahead, serial_still}
use Rattle.until_change.specs.Claims.{started}
use Rattle.until_change.proofs.First.{found, passes, nothing}
use Rattle.until_change.proofs.Turns.{changed}
use Rattle.until_change.proofs.Returning.{for_ever}

abbrev shows : ℕ → Bool
shows n = differs started 0xFF true n

first : shows 1 ≡ false
unfolding does writes refused answer_of request mask owned own_levels levels clocks clock_module iterate store stored stored_by decide_stored admitted in_map is_restricted decode peek put unmodelled guarded peek_queue put_queue queue_unmodelled queue_guarded reset_module reset write_spcr1 clocked has clock queue_clock start_clock play_clock edge bits_of pre_delay delay_after mosi_after collected_after
first = refl

second : shows 2 ≡ false
unfolding does writes refused answer_of request mask owned own_levels levels clocks clock_module iterate store stored stored_by decide_stored admitted in_map is_restricted decode peek put unmodelled guarded peek_queue put_queue queue_unmodelled queue_guarded reset_module reset write_spcr1 clocked has clock queue_clock start_clock play_clock edge bits_of pre_delay delay_after mosi_after collected_after
second = refl

third : shows 3 ≡ false
unfolding does writes refused answer_of request mask owned own_levels levels clocks clock_module iterate store stored stored_by decide_stored admitted in_map is_restricted decode peek put unmodelled guarded peek_queue put_queue queue_unmodelled queue_guarded reset_module reset write_spcr1 clocked has clock queue_clock start_clock play_clock edge bits_of pre_delay delay_after mosi_after collected_after
third = refl

fourth : shows 4 ≡ true
unfolding does writes refused answer_of request mask owned own_levels levels clocks clock_module iterate store stored stored_by decide_stored admitted in_map is_restricted decode peek put unmodelled guarded peek_queue put_queue queue_unmodelled queue_guarded reset_module reset write_spcr1 clocked has clock queue_clock start_clock play_clock edge bits_of pre_delay delay_after mosi_after collected_after
fourth = refl

before : (j : ℕ) → j < 3 → shows (1 + j) ≡ false
before zero less = first
before (suc zero) less = second
before (suc (suc zero)) less = third
before (suc (suc (suc j))) less = absurd (omega arith)

begins : started.clock ≡ 0
unfolding does writes refused answer_of request mask owned own_levels levels clocks clock_module iterate store stored stored_by decide_stored admitted in_map is_restricted decode peek put unmodelled guarded peek_queue put_queue queue_unmodelled queue_guarded reset_module reset write_spcr1 clocked has clock queue_clock start_clock play_clock edge bits_of pre_delay delay_after mosi_after collected_after
begins = refl

pub met : until_change started 0xFF true ≡ Some 4
unfolding until_change
met = ap (λ (n : ℕ). first_of shows (clock_limit - n) 1) begins ∙ passes shows 3 (clock_limit - 3) 1 before ∙ found shows (clock_limit - 4) 4 fourth

-- After a reset nothing runs.
idle : (i : ℕ) → 1 ≤ i → i ≤ 1 → changed (look reset_module) (held reset_module 0xFF) true i ≡ false
unfolding reset_module reset clocks clock_module iterate clocked clock queue_clock answer_of request mask owned own_levels levels has
idle zero low high = absurd (omega arith)
idle (suc zero) low high = refl
idle (suc (suc i)) low high = absurd (omega arith)

still : serial_still (ahead 0 true (held reset_module 0xFF)).sci true ≡ true
unfolding reset_module iterate rests quiet has
still = refl

back : (ahead 0 true (held reset_module 0xFF)).qspi ≡ (ahead 1 true (held reset_module 0xFF)).qspi
unfolding reset_module reset iterate clock queue_clock
back = refl

pub none_met : until_change reset_module 0xFF true ≡ None
unfolding until_change
none_met =
    nothing (differs reset_module 0xFF true) (clock_limit - reset_module.clock) 1
    (λ j less. for_ever (look reset_module) (held reset_module 0xFF) true 0 1 still back (omega arith) idle (1 + j) (omega arith))
