use Rattle.text.proofs.Puts.{puts_append}
use Rattle.text.proofs.line.Line.hex_word.Goals as goal

pub returns : goal.returns
returns c =
    rw (
      c.hex_byte-2.ensures,
      c.lower_byte.ensures,
      c.hex_byte.ensures,
      c.upper_byte.ensures,
    ) (simp puts_append)
