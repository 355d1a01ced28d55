use Rattle.text.proofs.Puts.{puts_append}
use Rattle.text.proofs.line.Line.access.Goals as goal

pub returns-in-Read : goal.returns-in-Read
returns-in-Read c = rw (c.place.ensures, c.write.ensures, c.in-Read.is) (simp puts_append)

pub returns-in-Write : goal.returns-in-Write
returns-in-Write c =
    rw (
      c.hex_long.ensures,
      c.write-in-Write-2.ensures,
      c.place-in-Write.ensures,
      c.write-in-Write.ensures,
      c.in-Write.is,
    ) (simp puts_append)
