use Rattle.drivers.specs.Reach.{writes}
use Rattle.drivers.proofs.state.Shared.writes.Goals as goal

pub returns : goal.returns
unfolding writes
returns c = rw (c.writes_word-2.ensures, c.decode-2.ensures, c.writes_word.ensures, c.decode.ensures, c.lower_lane-lower.ensures, c.upper_lane-upper.ensures, c.lined-words.ensures)
