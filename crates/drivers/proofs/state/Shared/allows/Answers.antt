use Rattle.drivers.specs.Reach.{allows}
use Rattle.drivers.proofs.state.Shared.allows.Goals as goal

pub returns-in-Read : goal.returns-in-Read
unfolding allows
returns-in-Read c = rw (c.reaches.ensures, c.begun.ensures, c.in-Read.is)

pub returns-in-Write : goal.returns-in-Write
unfolding allows
returns-in-Write c = rw (c.writes.ensures, c.reaches-in-Write.ensures, c.begun-in-Write.ensures, c.in-Write.is)
