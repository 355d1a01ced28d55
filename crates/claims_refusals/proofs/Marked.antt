-- K1 to K6 and K11 compute, K7 to K10 are the queue's laws, K12 is two records. Assumes nothing.
use mathlib.Core.Path.{◌≡◌, refl, ap, ◌∙◌}
use mathlib.Core.Bool.{true}
use mathlib.Core.List.{[]}
use Prim.Native.Nat.{ℕ, ◌-◌, ◌≤◌}
use native.Mathlib.Omega.{arith}
use lib.ListN.{take, drop}
use Rattle.sci.specs.model.Status.{has, raise, raise_if, fall, fall_if, mark_seen, fall_seen}
use Rattle.sci.specs.model.Framer.{start_bit, data_bit, stop_bit, fixed, framed}
use Rattle.sci.specs.model.Receiver.{outcome, raised, entered, status_after, receiver_after, received}
use Rattle.sci.specs.model.Transmitter.{sent}
use Rattle.sci.specs.model.Serial.{sampled, wrote_sccr1}
use Rattle.sci.specs.claims.Marked.{samples, K1, K2, K3, K4, K5, K6, K11}
use Rattle.qspi.proofs.Marked.{k7, k8, k9, k10}
use Rattle.qspi.specs.model.Registers.{reset}
use Rattle.qsm.specs.model.State.{reset_module}
use Rattle.qsm.specs.model.Map.{decode}
use Rattle.qsm.specs.model.Lanes.{in_map, is_restricted}
use Rattle.qsm.specs.model.Word.{peek}
use Rattle.qsm.specs.model.Serial.{peek_serial, serial_read}
use Rattle.qsm.specs.model.Queue.{queue_read}
use Rattle.qsm.specs.model.Access.{fetch, fetched}
use Rattle.qsm.specs.model.Decision.{admitted, decide_read}
use Rattle.qsm.specs.model.Pins.{mask, owned, own_levels, levels}
use Rattle.qsm.specs.model.Request.{request}
use Rattle.qsm.specs.model.Event.{answer_of, after_read, read_value, refused, resets, reads, does, step}
use Rattle.qsm.specs.declared.state.Module.{Module}
use Rattle.qsm.specs.declared.event.Access.TheVariants.{Read}
use Rattle.qsm.specs.declared.event.Event.TheVariants.{Reset}
use Rattle.qsm.specs.declared.event.Event.TheVariants as event
use Rattle.steps.specs.Iterate.{iterate}
use Rattle.trace.specs.Trace.{reader}
use Rattle.trace.specs.Play.{Outcome, answered, followed, stopped, play}
use Rattle.trace.proofs.Playing.{one_on, play_none}
use Rattle.claims_refusals.proofs.Limits.{reset_free, access_free}
use Rattle.claims_refusals.specs.Marked.{trace, K12, Marked}

k1 : K1 ≡ true
unfolding has raise raise_if fall fall_if mark_seen fall_seen start_bit data_bit stop_bit framed fixed outcome raised entered status_after receiver_after received sent sampled wrote_sccr1 samples
k1 = refl

k2 : K2 ≡ true
unfolding has raise raise_if fall fall_if mark_seen fall_seen start_bit data_bit stop_bit framed fixed outcome raised entered status_after receiver_after received sent sampled wrote_sccr1 samples
k2 = refl

k3 : K3 ≡ true
unfolding has raise raise_if fall fall_if mark_seen fall_seen start_bit data_bit stop_bit framed fixed outcome raised entered status_after receiver_after received sent sampled wrote_sccr1 samples
k3 = refl

k4 : K4 ≡ true
unfolding has raise raise_if fall fall_if mark_seen fall_seen start_bit data_bit stop_bit framed fixed outcome raised entered status_after receiver_after received sent sampled wrote_sccr1 samples
k4 = refl

k5 : K5 ≡ true
unfolding has raise raise_if fall fall_if mark_seen fall_seen start_bit data_bit stop_bit framed fixed outcome raised entered status_after receiver_after received sent sampled wrote_sccr1 samples
k5 = refl

k6 : K6 ≡ true
unfolding has raise raise_if fall fall_if mark_seen fall_seen start_bit data_bit stop_bit framed fixed outcome raised entered status_after receiver_after received sent sampled wrote_sccr1 samples
k6 = refl

k11 : K11 ≡ true
unfolding has raise raise_if fall fall_if mark_seen fall_seen start_bit data_bit stop_bit framed fixed outcome raised entered status_after receiver_after received sent sampled wrote_sccr1 samples
k11 = refl

-- The two records, one after the other.
two : (m : Module) (room : ℕ) → 36 ≤ room →
    play m trace room
    ≡ followed (answered (step m Reset) (take 1 trace))
    (followed (answered (step (step m Reset).state (event.Access (Read true 2 0x0C))) (take 4 (drop 1 trace)))
    (stopped (step (step m Reset).state (event.Access (Read true 2 0x0C))).state 0))
two m room enough =
    one_on reader m trace room Reset 1 refl (omega arith) (reset_free m)
    ∙ ap (followed (answered (step m Reset) (take 1 trace)))
    (one_on reader (step m Reset).state (drop 1 trace) (room - 18) (event.Access (Read true 2 0x0C)) 4 refl (omega arith) (access_free (step m Reset).state (Read true 2 0x0C))
    ∙ ap (followed (answered (step (step m Reset).state (event.Access (Read true 2 0x0C))) (take 4 (drop 1 trace))))
    (play_none reader (step (step m Reset).state (event.Access (Read true 2 0x0C))).state [] (room - 18 - 18) refl))

k12 : K12
unfolding has step does resets reads answer_of after_read read_value refused reset_module reset request mask owned own_levels levels decide_read admitted in_map is_restricted decode fetched fetch iterate peek peek_serial serial_read queue_read mark_seen
k12 m room enough = (ap (λ (o : Outcome). o.answers) (two m room enough), ap (λ (o : Outcome). o.stop) (two m room enough))

pub marked : Marked
marked = (k1, (k2, (k3, (k4, (k5, (k6, (k7, (k8, (k9, (k10, (k11, (k12, tt))))))))))))
