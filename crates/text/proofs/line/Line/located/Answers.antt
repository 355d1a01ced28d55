use Rattle.text.proofs.Puts.{puts_append}
use Rattle.text.proofs.line.Line.located.Goals as goal

pub returns : goal.returns
returns c =
    rw (
      c.decimal-2.ensures,
      c.write-2.ensures,
      c.decimal.ensures,
      c.write.ensures,
    ) (simp puts_append)
