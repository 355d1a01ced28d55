use Rattle.qspi.specs.quick.Falls.{mosi_since}
use Rattle.qspi.proofs.falls.mosi_since.Goals as goal

pub returns : goal.returns
unfolding mosi_since
returns c = rw (c.choose.ensures, c.bit_out.ensures, c.change_by-at.ensures)
