use Rattle.qsm.specs.model.Decision.{decide_stored}
use Rattle.qsm.proofs.state.Module.decide_write.Goals as goal

pub returns : goal.returns
unfolding decide_stored
returns c = rw (c.tested.ensures, c.permits.ensures, c.admitted-d.ensures, c.fits.ensures, c.shaped.ensures)
