use Rattle.drivers.proofs.reach.writes_spcr2.Goals as goal

pub returns : goal.returns
returns c = rw (c.spe.ensures, c.fit.ensures, c.merge-after.ensures)
