use Rattle.qsm.specs.model.Event.{does, resets}
use Rattle.qsm.proofs.state.Module.does.Goals as goal

pub returns-in-Reset : goal.returns-in-Reset
unfolding does resets
returns-in-Reset c = rw (c.done.ensures, c.reset.ensures, c.in-Reset.is)

pub returns-in-Hold : goal.returns-in-Hold
unfolding does resets
returns-in-Hold c = rw (c.holds.ensures, c.in-Hold.is)

pub returns-in-Access : goal.returns-in-Access
unfolding does resets
returns-in-Access c = rw (c.accesses.ensures, c.in-Access.is)
