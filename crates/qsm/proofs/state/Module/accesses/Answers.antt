use Rattle.qsm.proofs.state.Module.accesses.Goals as goal

pub returns-in-Read : goal.returns-in-Read
returns-in-Read c = rw (c.reads.ensures, c.in-Read.is)

pub returns-in-Write : goal.returns-in-Write
returns-in-Write c = rw (c.writes.ensures, c.in-Write.is)
