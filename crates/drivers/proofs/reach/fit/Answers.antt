use Rattle.drivers.proofs.reach.fit.Goals as goal

pub returns : goal.returns
returns c = rw (c.wren.ensures, c.owns-2.ensures, c.owns.ensures)
