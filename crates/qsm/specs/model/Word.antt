-- Document 01, Register map: a word of the map as it is read, what a write makes of it, and what a write is
-- refused for. `upper` and `lower` say which of its bytes an access touches.
use Rattle.std.specs.Prelude.{Bool, false, ℕ}
use Rattle.qsm.specs.model.State.{with_sci, with_qspi}
use Rattle.qsm.specs.model.Own.{peek_own, put_own, own_unmodelled}
use Rattle.qsm.specs.model.Serial.{peek_serial, put_serial, serial_unmodelled, serial_guarded}
use Rattle.qsm.specs.model.Queue.{peek_queue, put_queue, queue_unmodelled, queue_guarded}
use Rattle.qsm.specs.declared.map.Place.{Place}
use Rattle.qsm.specs.declared.map.Place.TheVariants.{Own, Serial, Queue, Hole}
use Rattle.qsm.specs.declared.state.Module.{Module}

unfoldable pub peek : Module → Place → ℕ
peek m (Own w) = peek_own m w
peek m (Serial w) = peek_serial m.sci w
peek m (Queue w) = peek_queue m.qspi w
peek m Hole = 0

unfoldable pub put : Module → Place → ℕ → Bool → Bool → Module
put m (Own w) v upper lower = put_own m w v upper lower
put m (Serial w) v upper lower = with_sci m (put_serial m.sci w v upper lower)
put m (Queue w) v upper lower = with_qspi m (put_queue m.qspi w v upper lower)
put m Hole v upper lower = m

-- Refusal 3: the write would set an unmodelled bit, BITS 1 to 7, or SPE with MSTR clear.
unfoldable pub unmodelled : Module → Place → ℕ → Bool → Bool → Bool
unmodelled m (Own w) v upper lower = own_unmodelled w v upper
unmodelled m (Serial w) v upper lower = serial_unmodelled w v upper lower
unmodelled m (Queue w) v upper lower = queue_unmodelled m.qspi w v upper
unmodelled m Hole v upper lower = false

-- Refusal 4: the write changes a guarded field while its half is on.
unfoldable pub guarded : Module → Place → ℕ → Bool → Bool → Bool
guarded m (Own w) v upper lower = false
guarded m (Serial w) v upper lower = serial_guarded m.sci w v upper lower
guarded m (Queue w) v upper lower = queue_guarded m.qspi w v upper lower
guarded m Hole v upper lower = false
