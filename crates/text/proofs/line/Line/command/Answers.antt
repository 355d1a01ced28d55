use Rattle.text.proofs.Puts.{puts_append}
use Rattle.text.specs.Register.{command}
use Rattle.text.proofs.line.Line.command.Goals as goal

pub returns-in-Upper : goal.returns-in-Upper
unfolding command
returns-in-Upper c = rw (c.decimal.ensures, c.in-Upper.is, c.write-start.ensures) (simp puts_append)

pub returns-in-Lower : goal.returns-in-Lower
unfolding command
returns-in-Lower c = rw (c.decimal-in-Lower.ensures, c.in-Lower.is, c.write-start.ensures) (simp puts_append)

pub returns-in-Whole : goal.returns-in-Whole
unfolding command
returns-in-Whole c =
    rw (
      c.decimal-in-Whole-2.ensures,
      c.write.ensures,
      c.decimal-in-Whole.ensures,
      c.in-Whole.is,
      c.write-start.ensures,
    ) (simp puts_append)
