-- The witness computes. Assumes nothing.
use mathlib.Core.Path.{refl}
use native.Mathlib.Omega.{arith}
use Rattle.steps.specs.Iterate.{iterate}
use Rattle.sci.specs.model.Status.{has, fall, mark_seen}
use Rattle.sci.specs.model.Serial.{clocked, wrote_sccr1, sccr1_guarded}
use Rattle.qspi.specs.model.Registers.{reset, write_spcr1}
use Rattle.qspi.specs.model.Queue.{clock, queue_clock}
use Rattle.qsm.specs.model.State.{reset_module}
use Rattle.qsm.specs.model.Map.{decode}
use Rattle.qsm.specs.model.Lanes.{in_map, is_restricted}
use Rattle.qsm.specs.model.Own.{put_own, own_unmodelled}
use Rattle.qsm.specs.model.Serial.{peek_serial, put_serial, serial_unmodelled, serial_guarded, serial_read}
use Rattle.qsm.specs.model.Queue.{peek_queue, put_queue, queue_unmodelled, queue_guarded, queue_read}
use Rattle.qsm.specs.model.Word.{peek, put, unmodelled, guarded}
use Rattle.qsm.specs.model.Access.{fetch, fetched, store, stored}
use Rattle.qsm.specs.model.Decision.{admitted, decide_read, stored_by, decide_stored}
use Rattle.qsm.specs.model.Request.{request}
use Rattle.qsm.specs.model.Event.{answer_of, clock_module, clocks, after_read, read_value, refused, holds, reads, writes, does, step}
use Rattle.qsm.specs.claims.Witness.{Met}

pub met : Met
unfolding step does reads writes holds refused answer_of request clocks clock_module after_read read_value fetched fetch iterate store stored stored_by decide_stored decide_read admitted in_map is_restricted decode peek put unmodelled guarded put_own own_unmodelled peek_serial put_serial serial_unmodelled serial_guarded serial_read peek_queue put_queue queue_unmodelled queue_guarded queue_read reset_module reset write_spcr1 wrote_sccr1 sccr1_guarded has fall mark_seen clocked clock queue_clock
met =
    record {
      on = refl;
      sends = refl;
      mosi = refl;
      serial_vector = refl;
      tdre = refl;
      modf = refl;
      tie_level = refl;
      tie_vector = refl;
      looks = record { permitted = refl; byte = 0; within = omega arith; here = refl };
      seen = refl;
    }
