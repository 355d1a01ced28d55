use Rattle.text.proofs.Puts.{puts_append}
use Rattle.text.proofs.line.Line.pair.Goals as goal

pub returns-in-Upper : goal.returns-in-Upper
returns-in-Upper c = rw (c.write.ensures, c.in-Upper.is)

pub returns-in-Lower : goal.returns-in-Lower
returns-in-Lower c = rw (c.write-in-Lower.ensures, c.in-Lower.is)

pub returns-in-Whole : goal.returns-in-Whole
returns-in-Whole c =
    rw (
      c.write-in-Whole-3.ensures,
      c.write-in-Whole-2.ensures,
      c.write-in-Whole.ensures,
      c.in-Whole.is,
    ) (simp puts_append)
