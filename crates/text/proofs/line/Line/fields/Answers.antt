use Rattle.text.proofs.Puts.{puts_append}
use Rattle.text.specs.Answer.{fields}
use Rattle.text.proofs.line.Line.fields.Goals as goal

pub returns : goal.returns
unfolding fields
returns c =
    rw (
      c.request.ensures,
      c.write-3.ensures,
      c.pins.ensures,
      c.write-2.ensures,
      c.hex_long.ensures,
      c.write.ensures,
      c.refusal.ensures,
    ) (simp puts_append)
