use Rattle.text.proofs.Puts.{puts_append}
use Rattle.text.specs.Record.{place}
use Rattle.text.proofs.line.Line.place.Goals as goal

pub returns : goal.returns
unfolding place
returns c =
    rw (
      c.hex_word.ensures,
      c.write-2.ensures,
      c.registers.ensures,
      c.write.ensures,
      c.decimal.ensures,
      c.privilege.ensures,
    ) (simp puts_append)
