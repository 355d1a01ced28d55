use Rattle.sci.specs.quick.Quiet.{rests}
use Rattle.sci.proofs.serial.Sci.rests.Goals as goal

pub returns-then-re-rests : goal.returns-then-re-rests
unfolding rests
returns-then-re-rests c =
    rw (rw (c.rests.ensures, c.m.ensures, c.re-re.ensures) at c.if-re-rests.true)

pub returns : goal.returns
unfolding rests
returns c =
    rw (
      c.scbr.ensures,
      c.te.ensures,
      c.rests-2.ensures,
      c.re-re.ensures,
      rw (c.rests.ensures, c.m.ensures, c.re-re.ensures) at c.if-re-rests.false,
    )
