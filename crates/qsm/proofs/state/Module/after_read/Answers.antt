use Rattle.qsm.specs.model.Event.{after_read}
use Rattle.qsm.proofs.state.Module.after_read.Goals as goal

pub returns : goal.returns
unfolding after_read
returns c = rw (c.queue_read-queue.ensures, c.touches-3.ensures, c.serial_read-serial.ensures, c.touches-2.ensures, c.touches.ensures)
