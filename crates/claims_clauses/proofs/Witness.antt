-- Cases that meet the laws' hypotheses, computed. Assumes nothing.
use mathlib.Core.Path.{refl}
use Rattle.steps.specs.Iterate.{iterate}
use Rattle.sci.specs.model.Status.{has, raise, raise_if, fall, fall_if, mark_seen, fall_seen}
use Rattle.sci.specs.model.Framer.{start_bit, data_bit, stop_bit, fixed, framed}
use Rattle.sci.specs.model.Receiver.{outcome, raised, entered, status_after, receiver_after, received}
use Rattle.sci.specs.claims.Levels.{low_bits}
use Rattle.sci.specs.claims.Moves.{lasting}
use Rattle.qsm.specs.model.State.{reset_module}
use Rattle.qsm.specs.model.Map.{decode}
use Rattle.qsm.specs.model.Lanes.{in_map, is_restricted}
use Rattle.qsm.specs.model.Serial.{peek_serial, serial_read, put_serial, serial_unmodelled, serial_guarded}
use Rattle.qsm.specs.model.Queue.{queue_read}
use Rattle.qsm.specs.model.Word.{peek, put, unmodelled, guarded}
use Rattle.qsm.specs.model.Access.{fetch, fetched, store, stored}
use Rattle.qsm.specs.model.Decision.{admitted, decide_read, stored_by, decide_stored, decide_write}
use Rattle.qsm.specs.model.Event.{answer_of, after_read, read_value, refused, reads, writes, does, step}
use Rattle.claims_clauses.specs.Witness.{FallMet, NoiseMet}

pub fall_met : FallMet
unfolding iterate has mark_seen fall_seen fall reset_module decode in_map is_restricted peek_serial serial_read put_serial serial_unmodelled serial_guarded queue_read peek put unmodelled guarded fetch fetched store stored admitted decide_read stored_by decide_stored decide_write answer_of after_read read_value refused reads writes does step
fall_met =
    record { set = refl; long = refl; unseen = refl; upper = refl; lower = refl; user = refl; write = refl; write_unseen = refl; shown = refl }

pub noise_met : NoiseMet
unfolding has raise raise_if fall fall_if start_bit data_bit stop_bit fixed framed outcome raised entered status_after receiver_after received low_bits lasting
noise_met = record { searching = refl; stays = refl; moves = refl; clear = refl; rises = refl; sum = refl }
