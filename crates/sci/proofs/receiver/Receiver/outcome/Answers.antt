use Rattle.sci.specs.model.Receiver.{outcome}
use Rattle.sci.proofs.receiver.Receiver.outcome.Goals as goal

pub returns : goal.returns
unfolding outcome
returns c = rw (c.reaches.ensures, c.m.ensures, c.full.ensures, c.abandons.ensures, c.begins.ensures, c.three.ensures, c.ilt.ensures, c.takes.ensures, c.ends-ended.ensures)
