use Rattle.qsm.specs.model.Event.{reads}
use Rattle.qsm.proofs.state.Module.polls.Goals as goal

pub returns : goal.returns
unfolding reads
returns c = rw (c.polled.ensures, c.decide_read-decided.ensures)
