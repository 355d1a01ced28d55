-- The witness computes. Assumes nothing.
use mathlib.Core.Path.{refl}
use Rattle.steps.specs.Iterate.{iterate}
use Rattle.qspi.specs.model.Registers.{reset, write_spcr1}
use Rattle.qsm.specs.model.State.{reset_module}
use Rattle.qsm.specs.model.Map.{decode}
use Rattle.qsm.specs.model.Lanes.{in_map, is_restricted}
use Rattle.qsm.specs.model.Queue.{put_queue, queue_unmodelled, queue_guarded, queue_read}
use Rattle.qsm.specs.model.Serial.{serial_read}
use Rattle.qsm.specs.model.Word.{put, unmodelled, guarded}
use Rattle.qsm.specs.model.Access.{store, stored}
use Rattle.qsm.specs.model.Decision.{admitted, decide_read, stored_by, decide_stored}
use Rattle.qsm.specs.model.Event.{answer_of, after_read, refused, resets}
use Rattle.qsm.specs.model.Event.{reads, writes, does, step}
use Rattle.drivers.specs.State.{new_shared}
use Rattle.drivers.specs.Reach as reach
use Rattle.drivers.specs.Reach.{reaches, allows, admits}
use Rattle.drivers.specs.Event as drivers
use Rattle.drivers.specs.Event.{told, played, refuses, restarted}
use Rattle.drivers.specs.Witness.{Met}

pub met : Met
unfolding drivers.step drivers.does told played refuses restarted new_shared reaches reach.writes allows admits step does resets reads writes refused answer_of after_read store stored iterate stored_by decide_stored decide_read admitted in_map is_restricted decode put unmodelled guarded put_queue queue_unmodelled queue_guarded queue_read serial_read reset_module reset write_spcr1
met = record { first = refl; bytes = refl; claim = refl; start = refl; later = refl }
