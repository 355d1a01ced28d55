use Rattle.qsm.specs.model.Event.{refused}
use Rattle.qsm.proofs.state.Module.refused.Goals as goal

pub returns : goal.returns
unfolding refused
returns c = rw (c.done.ensures, c.refusal_of.ensures)
