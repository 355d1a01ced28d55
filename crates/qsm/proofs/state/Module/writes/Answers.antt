use Rattle.qsm.specs.model.Event.{writes}
use Rattle.qsm.proofs.state.Module.writes.Goals as goal

pub returns : goal.returns
unfolding writes
returns c = rw (c.write_decided.ensures, c.decide_write-d.ensures, c.stored_by-s.ensures)
