use Rattle.text.proofs.Puts.{put_puts, puts_append}
use Rattle.text.proofs.line.Line.hex_byte.Goals as goal

pub returns : goal.returns
returns c =
    rw (
      c.put-2.ensures,
      c.hex_digit-2.ensures,
      c.put.ensures,
      c.hex_digit.ensures,
    ) (simp (put_puts, puts_append))
