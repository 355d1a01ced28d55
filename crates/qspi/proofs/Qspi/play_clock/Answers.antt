use Rattle.qspi.specs.model.Queue.{play_clock}
use Rattle.qspi.proofs.Qspi.play_clock.Goals as goal

pub returns : goal.returns
unfolding play_clock
returns c = rw c.counted.ensures
