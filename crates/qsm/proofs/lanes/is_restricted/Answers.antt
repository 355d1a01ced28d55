use Rattle.qsm.specs.model.Lanes.{is_restricted}
use Rattle.qsm.proofs.lanes.is_restricted.Goals as goal

pub returns : goal.returns
unfolding is_restricted
returns c = rw (c.restricted-2.ensures, c.decode-2.ensures, c.restricted.ensures, c.decode.ensures)
