use Rattle.text.proofs.Puts.{puts_append}
use Rattle.text.proofs.line.Line.number.Goals as goal

pub returns : goal.returns
returns c = rw (c.write.ensures, c.decimal.ensures) (simp puts_append)
