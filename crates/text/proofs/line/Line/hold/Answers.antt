use Rattle.text.proofs.Puts.{puts_append}
use Rattle.text.specs.Record.{hold}
use Rattle.text.proofs.line.Line.hold.Goals as goal

pub returns-then-rxd : goal.returns-then-rxd
unfolding hold
returns-then-rxd c =
    rw (
      c.decimal.ensures,
      c.write-then-rxd.ensures,
      c.if-rxd.true,
      c.hex_byte-start.ensures,
      c.write.ensures,
    ) (simp puts_append)

pub returns-else-rxd : goal.returns-else-rxd
unfolding hold
returns-else-rxd c =
    rw (
      c.decimal-else-rxd.ensures,
      c.write-else-rxd.ensures,
      c.if-rxd.false,
      c.hex_byte-start.ensures,
      c.write.ensures,
    ) (simp puts_append)
