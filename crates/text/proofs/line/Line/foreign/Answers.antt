use Rattle.text.proofs.Puts.{puts_append}
use Rattle.text.proofs.line.Line.foreign.Goals as goal

pub returns : goal.returns
returns c = rw (c.hex_byte.ensures, c.write.ensures) (simp puts_append)
