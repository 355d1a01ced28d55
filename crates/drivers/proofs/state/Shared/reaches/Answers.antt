use Rattle.drivers.specs.Reach.{reaches}
use Rattle.drivers.proofs.state.Shared.reaches.Goals as goal

pub returns : goal.returns
unfolding reaches
returns c = rw (c.reaches_word-2.ensures, c.decode-2.ensures, c.reaches_word.ensures, c.decode.ensures, c.lower_lane-lower.ensures, c.upper_lane-upper.ensures, c.holds-claimed.ensures)
