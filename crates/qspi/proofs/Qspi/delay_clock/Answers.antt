use Rattle.qspi.specs.model.Queue.{delay_clock}
use Rattle.qspi.proofs.Qspi.delay_clock.Goals as goal

pub returns : goal.returns
unfolding delay_clock
returns c = rw c.delayed.ensures
