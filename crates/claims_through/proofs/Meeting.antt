-- A replay of two letters, 31 clocks a bit for 32. Assumes nothing.
use mathlib.Core.Path.{◌≡◌, refl, ◌∙◌}
use mathlib.Core.Bool.{true, false}
use mathlib.Core.List.{[], ◌∷◌, ◌++◌}
use Prim.Native.Nat.{◌*◌, ◌≤◌}
use native.Mathlib.Omega.{arith}
use lib.Dec.{lit<}
use Rattle.steps.specs.Iterate.{iterate}
use Rattle.sci.specs.model.Status.{has, raise, raise_if, fall, fall_if, mark_seen, fall_seen}
use Rattle.sci.specs.model.Framer.{start_bit, data_bit, stop_bit, fixed, framed}
use Rattle.sci.specs.model.Receiver.{outcome, raised, entered, status_after, receiver_after, received}
use Rattle.sci.specs.model.Transmitter.{sent}
use Rattle.sci.specs.claims.Levels.{value}
use Rattle.sci.specs.model.Serial.{sampled, clocked, wrote_sccr0, wrote_sccr1, sccr0_guarded, sccr1_guarded}
use Rattle.qsm.specs.model.State.{reset_module}
use Rattle.qsm.specs.model.Map.{decode}
use Rattle.qsm.specs.model.Lanes.{in_map, is_restricted}
use Rattle.qsm.specs.model.Serial.{peek_serial, serial_read, put_serial, serial_unmodelled, serial_guarded}
use Rattle.qsm.specs.model.Word.{peek, put, unmodelled, guarded}
use Rattle.qsm.specs.model.Access.{fetch, fetched, store, stored}
use Rattle.qsm.specs.model.Decision.{admitted, decide_read, stored_by, decide_stored, decide_write}
use Rattle.qsm.specs.model.Event.{clock_module, clocks, after_read, read_value, refused, holds, reads, writes, does}
use Rattle.claims_histories.specs.History.{run}
use Rattle.claims_polling.specs.Rule.{waiting, on, started}
use Rattle.claims_senders.specs.Fair.{levels, line, data_of, words_sent, FairFrames, FairFrame}
use Rattle.claims_senders.specs.Heard.{earliest}
use Rattle.claims_senders.specs.Rates.{LastWithin, Paced}
use Rattle.claims_senders.specs.Undamaged.{Undamaged}
use Rattle.claims_senders.proofs.Pacing.{bit_times}
use Rattle.claims_through.specs.Through.{Ready, sample_of, bits_in}
use Rattle.claims_through.specs.Replayed.{held_for, held_in, holds_for, only_holds, letter, Met}
use Rattle.claims_through.specs.Replayed as spec
use Rattle.claims_through.proofs.Replays.{held_through_holds}

same : 31 ≤ 31
same = omega arith

paced : Paced 31 31 spec.sent
unfolding LastWithin
paced =
    record {
      start = (same, same);
      bits =
          (same, same, (same, same, (same, same, (same, same, (same, same, (same, same, (same, same, (same, same, tt))))))));
      stop = same;
    }

fair_one : FairFrame 2 spec.sent
fair_one = bit_times.fair 2 8 31 31 spec.sent refl (omega arith) (omega arith) paced

fair_two : FairFrames 2 8 (spec.sent ∷ spec.sent ∷ [])
unfolding FairFrames
fair_two = (refl, fair_one, (refl, fair_one, tt))

only : only_holds (letter ++ letter) ≡ true
unfolding holds_for
only = refl

at_six : held_in 6 (letter ++ letter) ≡ line (spec.sent ∷ spec.sent ∷ [])
unfolding held_for line levels
at_six = refl

words : words_sent (spec.sent ∷ spec.sent ∷ []) ≡ 0x41 ∷ 0x41 ∷ []
unfolding words_sent data_of value
words = refl

-- What is computed: six clocks.
pub record Begun : Type 0 where
  pub ready : Ready (started false)
  pub clear : waiting (started false) ≡ false
  pub undamaged : Undamaged (started false).sci
  pub clock : (started false).clock ≡ 6
  pub sample : sample_of (started false) ≡ 2
  pub bits : bits_in (started false) ≡ 8

pub begun : Begun
unfolding iterate has raise raise_if fall fall_if mark_seen fall_seen start_bit data_bit stop_bit fixed framed outcome raised entered status_after receiver_after received sent sampled clocked wrote_sccr0 wrote_sccr1 sccr0_guarded sccr1_guarded reset_module decode in_map is_restricted peek_serial serial_read put_serial serial_unmodelled serial_guarded peek put unmodelled guarded fetch fetched store stored admitted decide_read stored_by decide_stored decide_write clock_module clocks after_read read_value refused holds reads writes does run
begun =
    record {
      ready = record { on = refl; awake = refl; runs = lit< tt; searches = refl; ones = refl };
      clear = refl;
      undamaged = record { nf = refl; fe = refl; pf = refl; figure = refl };
      clock = refl;
      sample = refl;
      bits = refl;
    }

pub met : Met
met =
    let held : held_in (started false).clock (letter ++ letter) ≡ line (spec.sent ∷ spec.sent ∷ []) = rw begun.clock at_six in
    let fair : FairFrames (sample_of (started false)) (bits_in (started false)) (spec.sent ∷ spec.sent ∷ []) = rw (begun.sample, begun.bits) fair_two in
    let close : 296 ≤ earliest (bits_in (started false)) * sample_of (started false) = rw (begun.sample, begun.bits) (omega arith) in
    record {
      ready = begun.ready;
      clear = begun.clear;
      undamaged = begun.undamaged;
      only = only;
      levels = held;
      fair = fair;
      close = close;
      words = (held_through_holds (on false) 296 0 (letter ++ letter) (spec.sent ∷ spec.sent ∷ []) begun.ready begun.clear only held fair (omega arith) close).0 ∙ words;
    }
