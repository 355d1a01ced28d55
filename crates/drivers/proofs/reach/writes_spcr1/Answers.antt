use Rattle.drivers.proofs.reach.writes_spcr1.Goals as goal

pub returns : goal.returns
returns c = rw (c.fit.ensures, c.spe.ensures, c.merge-after.ensures)
