use Rattle.qspi.specs.model.Fields.{bits_of}
use Rattle.qspi.proofs.fields.bits_of.Goals as goal

pub returns : goal.returns
unfolding bits_of
returns c = rw (c.choose.ensures, c.zero_means.ensures)
