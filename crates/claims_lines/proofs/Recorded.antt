-- The trace of specs/Witness, computed. Assumes nothing.
use mathlib.Core.Path.{◌≡◌, refl}
use mathlib.Core.List.{List, [], ◌∷◌, ◌++◌}
use native.Mathlib.Omega.{arith}
use Rattle.steps.specs.Iterate.{iterate}
use Rattle.sci.specs.model.Status.{has, raise, raise_if, fall, fall_if, mark_seen, fall_seen}
use Rattle.sci.specs.model.Framer.{start_bit, data_bit, stop_bit, fixed, framed}
use Rattle.sci.specs.model.Receiver.{outcome, raised, entered, status_after, receiver_after, received}
use Rattle.sci.specs.model.Transmitter.{sent}
use Rattle.sci.specs.model.Serial.{sampled, clocked, wrote_sccr0, wrote_sccr1, sccr0_guarded, sccr1_guarded}
use Rattle.qsm.specs.model.State.{reset_module}
use Rattle.qsm.specs.model.Map.{decode}
use Rattle.qsm.specs.model.Lanes.{in_map, is_restricted}
use Rattle.qsm.specs.model.Serial.{peek_serial, serial_read, put_serial, serial_unmodelled, serial_guarded}
use Rattle.qsm.specs.model.Word.{peek, put, unmodelled, guarded}
use Rattle.qsm.specs.model.Access.{fetch, fetched, store, stored}
use Rattle.qsm.specs.model.Decision.{admitted, decide_read, stored_by, decide_stored}
use Rattle.qsm.specs.model.Event.{clock_module, clocks, after_read, read_value, refused, holds, reads, writes, does}
use Rattle.tool_lines.specs.Poll.{polled}
use Rattle.tool_lines.specs.Schedule.{cut, scheduled_for}
use Rattle.tool_lines.specs.Gather.{shown, gather}
use Rattle.tool_lines.specs.Replay.{events_of, notices}
use Rattle.claims_lines.specs.Happened.{Happening, status_read, happened}
use Rattle.claims_lines.specs.Segment.{Line}
use Rattle.claims_lines.specs.Claims.{heard}
use Rattle.claims_lines.specs.Witness.{recorded, undamaged, came, read, Whole, Met}

quick : heard 300 recorded ≡ status_read ∷ (came 0x41 ∷ (read 0x41 ++ (came 0x0A ∷ (read 0x0A ++ (came 0x0A ∷ read 0x0A)))))
unfolding iterate has raise raise_if fall fall_if mark_seen fall_seen start_bit data_bit stop_bit fixed framed outcome raised entered status_after receiver_after received sent sampled clocked wrote_sccr0 wrote_sccr1 sccr0_guarded sccr1_guarded reset_module decode in_map is_restricted peek_serial serial_read put_serial serial_unmodelled serial_guarded peek put unmodelled guarded fetch fetched store stored admitted decide_read stored_by decide_stored clock_module clocks after_read read_value refused holds reads writes does polled cut scheduled_for shown gather notices events_of happened
quick = refl

-- The first line of what is heard so.
whole : (h : List Happening) → h ≡ status_read ∷ (came 0x41 ∷ (read 0x41 ++ (came 0x0A ∷ (read 0x0A ++ (came 0x0A ∷ read 0x0A))))) → Whole h
whole h e =
    let first : Line h =
    record {
      before = [];
      body = status_read ∷ (came 0x41 ∷ read 0x41);
      last = 0x0A;
      damage = undamaged;
      after = read 0x0A ++ (came 0x0A ∷ read 0x0A);
      split = e;
      begins = refl;
      inner = refl;
      end = refl;
    } in
    record {
      line = first;
      delivered = record { between = status_read ∷ []; rest = came 0x0A ∷ read 0x0A; waits = refl; then = refl };
      clean = refl;
      sound = refl;
      short = omega arith;
    }

pub met : Met
unfolding iterate has raise raise_if fall fall_if mark_seen fall_seen start_bit data_bit stop_bit fixed framed outcome raised entered status_after receiver_after received sent sampled clocked wrote_sccr0 wrote_sccr1 sccr0_guarded sccr1_guarded reset_module decode in_map is_restricted peek_serial serial_read put_serial serial_unmodelled serial_guarded peek put unmodelled guarded fetch fetched store stored admitted decide_read stored_by decide_stored clock_module clocks after_read read_value refused holds reads writes does polled cut scheduled_for shown gather notices events_of happened
met =
    record {
      quick = quick;
      handed = refl;
      whole = whole (heard 300 recorded) quick;
      slow = refl;
      dropped = refl;
    }
