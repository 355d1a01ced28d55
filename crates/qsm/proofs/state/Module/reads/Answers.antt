use Rattle.qsm.specs.model.Event.{reads}
use Rattle.qsm.proofs.state.Module.reads.Goals as goal

pub returns : goal.returns
unfolding reads
returns c = rw (c.read_decided.ensures, c.decide_read-d.ensures)
