-- The device goes as the module does, and its clocks add up; the example computes. Assumes nothing.
use mathlib.Core.Path.{◌≡◌, refl, sym, ap, ◌∙◌}
use mathlib.Core.Bool.{Bool, true, false, cond}
use mathlib.Core.List.{[], ◌∷◌, ◌++◌}
use Prim.Native.Nat.{ℕ, zero, suc, ◌+◌}
use native.Mathlib.Omega.{arith}
use Rattle.steps.specs.Iterate.{iterate}
use Rattle.sci.specs.model.Serial.{clocked}
use Rattle.sci.specs.model.Status.{has}
use Rattle.qspi.specs.model.Fields.{bits_of, pre_delay, delay_after}
use Rattle.qspi.specs.model.Entry.{mosi_after, collected_after}
use Rattle.qspi.specs.model.Registers.{reset, write_spcr1}
use Rattle.qspi.specs.model.Queue.{completed, edge, play_clock, start_clock, clock, queue_clock}
use Rattle.qsm.specs.model.State.{reset_module}
use Rattle.qsm.specs.model.Map.{decode}
use Rattle.qsm.specs.model.Lanes.{in_map, is_restricted}
use Rattle.qsm.specs.model.Queue.{peek_queue, put_queue, queue_unmodelled, queue_guarded}
use Rattle.qsm.specs.model.Word.{peek, put, unmodelled, guarded}
use Rattle.qsm.specs.model.Access.{store, stored}
use Rattle.qsm.specs.model.Decision.{admitted, stored_by, decide_stored}
use Rattle.qsm.specs.model.Pins.{mask, owned, own_levels, levels}
use Rattle.qsm.specs.model.Request.{request}
use Rattle.qsm.specs.model.Event.{answer_of, clock_module, clocks, refused, resets, writes, does}
use Rattle.qsm.specs.declared.event.Done.{Done}
use Rattle.qsm.specs.declared.event.Event.TheVariants.{Reset, Hold}
use Rattle.qsm.specs.declared.event.Event.TheVariants as event
use Rattle.qsm.proofs.Limit.{hold_played, is_room}
use Rattle.tool_wave.specs.Probe.{ends, tick, taken, limited}
use Rattle.tool_wave.specs.Drawn.{step_to, still, ticks}
use Rattle.tool_wave.specs.Claims.{Own, Forward, running, ending, Met}
use Rattle.tool_wave.specs.declared.probe.Probe.{Probe}
use Rattle.tool_wave.proofs.Meaning.{rooms, fitting}

ticks_rxd : (n : ℕ) (p : Probe) → (iterate n tick p).rxd ≡ p.rxd
unfolding iterate
ticks_rxd zero p = refl
ticks_rxd (suc n) p = ticks_rxd n p

ticks_device : (n : ℕ) (p : Probe) → (iterate n tick p).device ≡ iterate n (clock_module p.rxd) p.device
unfolding iterate
ticks_device zero p = refl
ticks_device (suc n) p =
    ap (λ (rxd : Bool). clock_module rxd (iterate n tick p).device) (ticks_rxd n p)
    ∙ ap (clock_module p.rxd) (ticks_device n p)

ticks_clock : (n : ℕ) (p : Probe) → (iterate n tick p).clock ≡ p.clock + n
unfolding iterate
ticks_clock zero p = omega arith
ticks_clock (suc n) p = omega (arith, ticks_clock n p)

pub own : Own
unfolding does resets clocks
own p Reset goes = refl
own p (Hold pins rxd n) goes =
    ticks_device n (taken p pins rxd)
    ∙ sym (ap (λ (d : Done). d.state)
    (hold_played p.device pins rxd n (is_room p.device n (rooms p n (fitting (limited p n) goes)).0)))
own p (event.Access a) goes = refl

pub forward : Forward
forward p Reset = omega arith
forward p (Hold pins rxd n) = ticks_clock n (taken p pins rxd)
forward p (event.Access a) = omega arith

-- ---- the example

first : still (iterate 0 tick running) (tick (iterate 0 tick running)) 0 ≡ true
unfolding does writes refused answer_of request mask owned own_levels levels clocks clock_module iterate store stored stored_by decide_stored admitted in_map is_restricted decode peek put unmodelled guarded peek_queue put_queue queue_unmodelled queue_guarded reset_module reset write_spcr1 clocked has clock queue_clock start_clock play_clock edge bits_of pre_delay delay_after mosi_after collected_after
first = refl

second : still (iterate 1 tick running) (tick (iterate 1 tick running)) 0 ≡ true
unfolding does writes refused answer_of request mask owned own_levels levels clocks clock_module iterate store stored stored_by decide_stored admitted in_map is_restricted decode peek put unmodelled guarded peek_queue put_queue queue_unmodelled queue_guarded reset_module reset write_spcr1 clocked has clock queue_clock start_clock play_clock edge bits_of pre_delay delay_after mosi_after collected_after
second = refl

third : still (iterate 2 tick running) (tick (iterate 2 tick running)) 0 ≡ true
unfolding does writes refused answer_of request mask owned own_levels levels clocks clock_module iterate store stored stored_by decide_stored admitted in_map is_restricted decode peek put unmodelled guarded peek_queue put_queue queue_unmodelled queue_guarded reset_module reset write_spcr1 clocked has clock queue_clock start_clock play_clock edge bits_of pre_delay delay_after mosi_after collected_after
third = refl

fourth : still (iterate 3 tick running) (tick (iterate 3 tick running)) 0 ≡ false
unfolding does writes refused answer_of request mask owned own_levels levels clocks clock_module iterate store stored stored_by decide_stored admitted in_map is_restricted decode peek put unmodelled guarded peek_queue put_queue queue_unmodelled queue_guarded reset_module reset write_spcr1 clocked has clock queue_clock start_clock play_clock edge bits_of pre_delay delay_after mosi_after collected_after
fourth = refl

pub met : Met
unfolding ticks iterate
met =
    ap (λ (b : Bool). cond b [] (step_to (iterate 0 tick running) (iterate 1 tick running) 0 ∷ []) ++ ticks 3 (iterate 1 tick running)) first
    ∙ ap (λ (b : Bool). cond b [] (step_to (iterate 1 tick running) (iterate 2 tick running) 0 ∷ []) ++ ticks 2 (iterate 2 tick running)) second
    ∙ ap (λ (b : Bool). cond b [] (step_to (iterate 2 tick running) (iterate 3 tick running) 0 ∷ []) ++ ticks 1 (iterate 3 tick running)) third
    ∙ ap (λ (b : Bool). cond b [] (step_to (iterate 3 tick running) (iterate 4 tick running) 0 ∷ []) ++ ticks 0 (iterate 4 tick running)) fourth

pub ends_so : ends ending.device (tick ending).device ≡ true
unfolding does writes refused answer_of request mask owned own_levels levels clocks clock_module iterate store stored stored_by decide_stored admitted in_map is_restricted decode peek put unmodelled guarded peek_queue put_queue queue_unmodelled queue_guarded reset_module reset write_spcr1 clocked has clock queue_clock start_clock play_clock edge completed bits_of pre_delay delay_after mosi_after collected_after
ends_so = refl
