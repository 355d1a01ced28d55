-- The second frame of the two modules, without pause.
use mathlib.Core.Bool.{true}
use mathlib.Core.List.{List, [], ◌∷◌, ◌++◌}
use mathlib.Core.Path.{◌≡◌, refl, ap, sym, subst, ◌∙◌}
use Prim.Native.Nat.{ℕ, zero, suc, ◌+◌, ◌*◌, ◌≤◌, ◌<◌}
use native.Mathlib.Omega.{arith}
use lib.ListN.{replicate}
use Rattle.sci.specs.model.Status.{has, raise, raise_if, fall, mark_seen, fall_seen}
use Rattle.sci.specs.model.Control.{SCBR, M, bits_of, frame_samples}
use Rattle.sci.specs.model.Transmitter.{begins_frame, sent}
use Rattle.sci.specs.model.Serial.{due, sampled, clocked, wrote_sccr0, wrote_sccr1, sccr0_guarded, sccr1_guarded}
use Rattle.sci.specs.claims.Levels.{end_sample}
use Rattle.sci.specs.claims.History as sci
use Rattle.sci.specs.claims.BackToBack.{reads_data, reads_both}
use Rattle.sci.specs.claims.Wire.{Wired, step}
use Rattle.sci.specs.claims.Wire as wire
use Rattle.sci.specs.declared.serial.Sci.{Sci}
use Rattle.qsm.specs.model.Event.{clock_limit}
use Rattle.qsm.specs.model.Map.{decode}
use Rattle.qsm.specs.model.Lanes.{in_map}
use Rattle.qsm.specs.model.Decision.{admitted, decide_read}
use Rattle.qsm.specs.declared.event.Access.TheVariants.{Read, Write}
use Rattle.claims_histories.specs.Demand2.{Two, halves, Moment, clock, at_sender, at_receiver, next, play, Counts, Unchanged, Rests, begun, Begins, Sends, AllSent, AllRead, StopBit}
use Rattle.claims_histories.proofs.Pin.{wire_driven}
use Rattle.claims_histories.proofs.OnWire.{joined}
use Rattle.claims_histories.proofs.Uncounted.{uncounted}
use Rattle.claims_histories.proofs.Joined.{project, clock_halves, project_steps, rests_plain, play_append}
use Rattle.claims_histories.proofs.Arriving.{begins_driven}
use Rattle.claims_histories.proofs.Stopping.{stop_bit_holds}
use Rattle.claims_histories.proofs.Requested.{stop_keeps}
use Rattle.claims_histories.proofs.LowCounts.{Low, low_counts, low_next, low_play}
use Rattle.claims_histories.proofs.Sent.{two, tick, ticks, status, one, other, all_clocks, at_past}
use Rattle.claims_histories.proofs.SentOne.{one_begins, two_counts, b, b_low, e_low, one_unchanged, project_ticks, sent_one, heard_one, e, at_e}

-- From the first frame's beginning to its end, with the reads: the stop bit, and the next word's frame.
abbrev ends : List Moment
ends = clock tick ∷ (at_receiver status ∷ (at_receiver (Read true 2 0x0E) ∷ []))

clocks_ends : (n k : ℕ) (q : Two) → Low k q → k + n < clock_limit → Unchanged (ticks n ++ ends) q
clocks_ends zero k q low room =
    (low_counts k q low (omega arith), (uncounted _ status refl, (uncounted _ (Read true 2 0x0E) refl, tt)))
clocks_ends (suc n) k q low room = (
  low_counts k q low (omega arith),
  clocks_ends n (suc k) (next (clock tick) q) (low_next (clock tick) k q low) (omega arith),
)

abbrev until : List Moment
until = one.later ++ ends

stop : StopBit (ticks 11) (play until b)
stop =
    let l : 288 ≤ 308 = omega arith in
    stop_bit_holds two tick until (ticks 11) one_begins two_counts
    (one_unchanged (ticks 307 ++ ends) (λ q low. clocks_ends 307 322 q low (omega arith)))
    (all_clocks 11 630 (play until b) (low_play until 322 b b_low) (omega arith))
    (subst (λ (s : Sci). 16 * suc (bits_of (M s.sccr1)) * (2 * SCBR s.sccr0) ≤ 308) (sym at_past) l)
    (sym (ap (λ (s : Sci). frame_samples (bits_of (M s.sccr1)) * (2 * SCBR s.sccr0)) at_past))

other_rests : Rests other.idle e
unfolding play
other_rests = subst (Rests (ticks 11)) (play_append one.later ends b) stop.rests

abbrev fetched : Two
fetched = next (at_receiver (Read true 2 0x0E)) (next (at_receiver status) e)

other_unchanged : Unchanged other.idle e
other_unchanged = (
  uncounted _ status refl,
  (
    uncounted _ (Read true 2 0x0E) refl,
    all_clocks 11 630 fetched (low_next (at_receiver (Read true 2 0x0E)) 630 (next (at_receiver status) e) (low_next (at_receiver status) 630 e e_low)) (omega arith),
  ),
)

abbrev z : Two
z = play other.idle e

z_low : Low 641 z
z_low = low_play other.idle 630 e e_low

z_counts : Counts z
z_counts = low_counts 641 z z_low (omega arith)

begun_low : Low 642 (begun other.frame z)
begun_low = low_next (clock tick) 641 z z_low

abbrev other_idle : List wire.Step
other_idle = wire.at_receiver wire.read_status ∷ (wire.at_receiver wire.read_data ∷ replicate 11 (wire.clock true))

same_idle : project other.idle e ≡ other_idle
unfolding decide_read admitted in_map decode
same_idle =
    ap (λ (fs : List wire.Step). wire.at_receiver wire.read_status ∷ (wire.at_receiver wire.read_data ∷ fs))
    (project_ticks 11 fetched)

at_z : halves z ≡ wire.steps other_idle (joined sent_one heard_one)
at_z =
    sym (project_steps other.idle e other_unchanged (rests_plain other.idle e other_rests))
    ∙ ap (λ (fs : List wire.Step). wire.steps fs (halves e)) same_idle ∙ ap (wire.steps other_idle) at_e

-- The sender then, and what is left of the two when it has begun.
record Next (s : Sci) : Type 0 where
  sample : due s ≡ true
  frame : begins_frame s.transmitter s.status s.sccr1 ≡ true
  long : suc (end_sample (bits_of (M s.sccr1))) * (2 * SCBR s.sccr0) ≡ 308

z_next : Next z.sender.sci
unfolding has raise raise_if fall mark_seen fall_seen sent sampled clocked wire.accessed step wire.steps
z_next = subst (λ (w : Wired). Next w.sender) (sym at_z) (record { sample = refl; frame = refl; long = refl })

other_begins : Begins z.sender
other_begins = record { sample = z_next.sample; frame = z_next.frame }

record Gone (w : Wired) : Type 0 where
  control : w.sender.sccr1 ≡ 8
  count : w.receiver.prescaler ≡ 0

z_gone : Gone (halves (begun other.frame z))
unfolding sci.run sci.step wrote_sccr0 wrote_sccr1 sccr0_guarded sccr1_guarded sampled clocked wire.accessed step wire.steps
z_gone =
    subst Gone (clock_halves tick z z_counts (wire_driven z.sender true (begins_driven z.sender other_begins)))
    (subst (λ (w : Wired). Gone (step (wire.clock true) w)) (sym at_z) (record { control = refl; count = refl }))

other_sends : Sends other.frame z
other_sends =
    record {
      begins = other_begins;
      counts = z_counts;
      unchanged = (
        stop_keeps (begun other.frame z).sender z_gone.control,
        all_clocks 307 642 (next (at_sender (Write true 2 0x0A 0)) (begun other.frame z))
            (low_next (at_sender (Write true 2 0x0A 0)) 642 (begun other.frame z) begun_low) (omega arith),
      );
      counts_last =
          low_counts 949 (play other.frame.later (begun other.frame z))
          (low_play other.frame.later 642 (begun other.frame z) begun_low) (omega arith);
      last = ap (λ (k : ℕ). 308 + k) z_gone.count ∙ sym z_next.long;
    }

pub all_sent : AllSent (other ∷ []) e
all_sent = (record { unchanged = other_unchanged; rests = other_rests; sends = other_sends }, tt)

pub all_read : AllRead (other ∷ []) e
unfolding reads_both reads_data decide_read admitted in_map decode
all_read = (refl, tt)
