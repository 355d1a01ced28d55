use Rattle.qspi.specs.model.Queue.{clock}
use Rattle.qspi.proofs.Qspi.clock.Goals as goal

pub returns : goal.returns
unfolding clock
returns c = rw (c.queue_clock.ensures, c.miso_of.ensures, c.faulted.ensures, c.fault_now.ensures)
