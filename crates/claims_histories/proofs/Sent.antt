-- Two modules since their resets, and two words in turn, by which demand 2's hypotheses are met: what happens to them, and their serial
-- halves when the first frame begins.
use mathlib.Core.Bool.{true, false}
use mathlib.Core.List.{List, [], ◌∷◌}
use mathlib.Core.Path.{◌≡◌, ap, ◌∙◌}
use Prim.Native.Nat.{ℕ, zero, suc, ◌+◌, ◌≤◌}
use native.Mathlib.Omega.{arith}
use lib.ListN.{replicate}
use Rattle.steps.specs.Iterate.{iterate}
use Rattle.sci.specs.model.Flags.{flag}
use Rattle.sci.specs.model.Status.{has, raise, raise_if, fall, mark_seen, fall_seen}
use Rattle.sci.specs.model.Transmitter.{sent}
use Rattle.sci.specs.model.Serial.{reset_sci, sampled, clocked, wrote_sccr0, wrote_sccr1, sccr0_guarded, sccr1_guarded}
use Rattle.sci.specs.claims.History as sci
use Rattle.sci.specs.declared.serial.Sci.{Sci}
use Rattle.sci.proofs.History.{clocks}
use Rattle.qsm.specs.model.State.{reset_module}
use Rattle.qsm.specs.model.Map.{decode}
use Rattle.qsm.specs.model.Lanes.{in_map, is_restricted}
use Rattle.qsm.specs.model.Word.{put, unmodelled, guarded}
use Rattle.qsm.specs.model.Serial.{serial_read, put_serial, serial_unmodelled, serial_guarded}
use Rattle.qsm.specs.model.Access.{store, stored}
use Rattle.qsm.specs.model.Decision.{admitted, decide_read, stored_by, decide_stored, decide_write}
use Rattle.qsm.specs.model.Event.{clock_limit, after_read, does}
use Rattle.qsm.specs.model.Event as events
use Rattle.qsm.specs.declared.event.Access.{Access}
use Rattle.qsm.specs.declared.event.Access.TheVariants.{Read, Write}
use Rattle.qsm.specs.declared.event.Event.{Event}
use Rattle.qsm.specs.declared.event.Event.TheVariants.{Hold}
use Rattle.qsm.specs.declared.event.Event.TheVariants as event
use Rattle.claims_histories.specs.History.{run}
use Rattle.claims_histories.specs.Demand2.{Two, halves, Tick, Moment, clock, at_sender, at_receiver, next, Unchanged, Frame, Word, since}
use Rattle.claims_histories.proofs.Lifted.{all, from_reset}
use Rattle.claims_histories.proofs.OnWire.{joined}
use Rattle.claims_histories.proofs.Room.{since_plain}
use Rattle.claims_histories.proofs.LowCounts.{Low, low_counts, low_next}

-- The sender: SCBR 1; status seen, the word 55 (hexadecimal) written, TE set; then the preamble up to the clock before the frame.
abbrev pub past : List Event
past =
    event.Access (Write true 2 0x08 1)
    ∷ (event.Access (Read true 2 0x0C) ∷ (event.Access (Write true 2 0x0E 0x55) ∷ (event.Access (Write true 2 0x0A 8) ∷ (Hold 0 true 321 ∷ []))))

-- The receiver: SCBR 1, RE set, two ones; its third comes in the clock in which the frame begins.
abbrev pub past' : List Event
past' = event.Access (Write true 2 0x08 1) ∷ (event.Access (Write true 2 0x0A 4) ∷ (Hold 0 true 5 ∷ []))

abbrev pub two : Two
two = since past past'

abbrev pub tick : Tick
tick = record { pins = 0; rxd = true; undriven = true; pins' = 0 }

abbrev pub ticks : ℕ → List Moment
ticks n = replicate n (clock tick)

abbrev pub status : Access
status = Read true 2 0x0C

-- While the first word is sent the next, 2A, is written, and the receiver's RIE is set; at its end status, then data, is read, and the next
-- follows without pause. While that is sent TE is cleared.
abbrev pub one : Frame
one =
    record {
      first = tick;
      later = at_sender status ∷ (at_sender (Write true 2 0x0E 0x2A) ∷ (at_receiver (Write true 2 0x0A 0x24) ∷ ticks 307));
      last = tick;
    }

abbrev pub other : Word
other =
    record {
      idle = at_receiver status ∷ (at_receiver (Read true 2 0x0E) ∷ ticks 11);
      frame = record { first = tick; later = at_sender (Write true 2 0x0A 0) ∷ ticks 307; last = tick };
    }

pub all_clocks : (n k : ℕ) (q : Two) → Low k q → k + n ≤ clock_limit → Unchanged (ticks n) q
all_clocks zero k q low room = tt
all_clocks (suc n) k q low room = (
  low_counts k q low (omega arith),
  all_clocks n (suc k) (next (clock tick) q) (low_next (clock tick) k q low) (omega arith),
)

-- The two serial halves then.
abbrev pub sending : Sci
sending =
    record {
      sccr0 = 1;
      sccr1 = 8;
      status = record { flags = flag 0; seen = flag 0 };
      prescaler = 1;
      receiver = reset_sci.receiver;
      transmitter = record { scdr = 0x55; preamble = false; shift = 1; left = 1 };
      account = reset_sci.account;
    }

abbrev pub listening : Sci
listening = sci.run (sci.writesSccr0 1 true true ∷ (sci.writesSccr1 4 true true ∷ clocks 5 true)) reset_sci

same_past : all past reset_module
    ≡ sci.writesSccr0 1 true true ∷ (sci.reads true false ∷ (sci.writesScdr 0x55 true true ∷ (sci.writesSccr1 8 true true ∷ clocks 321 true)))
unfolding reset_module does events.writes events.refused decide_write decide_stored decide_read admitted in_map is_restricted decode stored_by stored store iterate put unmodelled guarded put_serial serial_unmodelled serial_guarded wrote_sccr0 wrote_sccr1 sccr0_guarded sccr1_guarded after_read events.reads serial_read
same_past = since_plain past (omega arith)

pub at_past : (run past reset_module).sci ≡ sending
unfolding has raise raise_if fall mark_seen fall_seen sent sampled clocked wrote_sccr0 wrote_sccr1 sccr0_guarded sccr1_guarded sci.step sci.run
at_past = from_reset past ∙ ap (λ (es : List sci.Step). sci.run es reset_sci) same_past

same_past' : all past' reset_module ≡ sci.writesSccr0 1 true true ∷ (sci.writesSccr1 4 true true ∷ clocks 5 true)
unfolding reset_module does events.writes events.refused decide_write decide_stored decide_read admitted in_map is_restricted decode stored_by stored store iterate put unmodelled guarded put_serial serial_unmodelled serial_guarded wrote_sccr0 wrote_sccr1 sccr0_guarded sccr1_guarded
same_past' = since_plain past' (omega arith)

at_past' : (run past' reset_module).sci ≡ listening
at_past' = from_reset past' ∙ ap (λ (es : List sci.Step). sci.run es reset_sci) same_past'

pub start : halves two ≡ joined sending listening
start = λ i. joined (at_past i) (at_past' i)
