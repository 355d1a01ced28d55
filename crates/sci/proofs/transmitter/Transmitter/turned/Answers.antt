use Rattle.sci.specs.model.Transmitter.{sent}
use Rattle.sci.proofs.transmitter.Transmitter.turned.Goals as goal

pub m-m-requires : goal.m-m-requires
m-m-requires c = tt

pub has-empty-requires : goal.has-empty-requires
has-empty-requires c = tt

pub te-requires : goal.te-requires
te-requires c = tt

pub new_left-left-requires : goal.new_left-left-requires
new_left-left-requires c = tt

pub passed-rest-requires : goal.passed-rest-requires
passed-rest-requires c = tt

pub raise_if-ended-requires : goal.raise_if-ended-requires
raise_if-ended-requires c = tt

pub framed-requires : goal.framed-requires
framed-requires c = tt

pub new_shift-requires : goal.new_shift-requires
new_shift-requires c = tt

pub raise_if-requires : goal.raise_if-requires
raise_if-requires c = tt

pub returns : goal.returns
unfolding sent
returns c = rw (c.raise_if.ensures, c.new_shift.ensures, c.framed.ensures, c.raise_if-ended.ensures, c.passed-rest.ensures, c.new_left-left.ensures, c.te.ensures, c.has-empty.ensures, c.m-m.ensures)
