use Rattle.drivers.specs.Reach.{admits}
use Rattle.drivers.proofs.Admitting.{admitting}
use Rattle.drivers.proofs.reach.admits.Goals as goal

pub returns-in-Read : goal.returns-in-Read
unfolding admits
returns-in-Read c = rw (c.permits.ensures, c.decide_read.ensures, c.in-Read.is)

pub returns-in-Write : goal.returns-in-Write
unfolding admits
returns-in-Write c =
    rw (c.permits-in-Write.ensures, c.decide_write.ensures, c.unrefused.ensures, c.in-Write.is, admitting _ _ _ _ _)
