use Rattle.qsm.proofs.Straight.{serial_seen, queue_seen}
use Rattle.qsm.proofs.state.Module.flags_seen.Goals as goal

pub returns : goal.returns
returns c = rw (c.spsr_seen-qspi.ensures, c.data_taken-sci.ensures, c.status_seen.ensures, ← serial_seen, ← queue_seen)
