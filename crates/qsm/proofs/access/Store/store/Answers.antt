use Rattle.qsm.specs.model.Access.{store}
use Rattle.qsm.proofs.access.Store.store.Goals as goal

pub returns : goal.returns
unfolding store
returns c = rw (c.guarded.ensures, c.unmodelled.ensures, c.next.ensures, c.put.ensures, c.decode-p.ensures)
