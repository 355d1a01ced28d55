use Rattle.text.proofs.Puts.{puts_append}
use Rattle.text.proofs.line.Line.hex_long.Goals as goal

pub returns : goal.returns
returns c = rw (c.hex_word-2.ensures, c.hex_word.ensures) (simp puts_append)
