use Rattle.qsm.specs.model.Access.{fetch}
use Rattle.qsm.proofs.state.Module.fetch.Goals as goal

pub returns : goal.returns
unfolding fetch
returns c = rw (c.next.ensures, c.peek-word.ensures, c.decode.ensures)
