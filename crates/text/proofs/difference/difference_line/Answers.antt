use Rattle.text.specs.Difference.{difference_line}
use Rattle.text.proofs.Puts.{put_puts, puts_append, shows}
use Rattle.text.proofs.Fields.{difference_fits}
use Rattle.text.proofs.difference.difference_line.Goals as goal

pub returns : goal.returns
returns c =
    let start = c.args in
    rw (
      c.put.ensures,
      c.field_text-2.ensures,
      c.write-2.ensures,
      c.field_text.ensures,
      c.write.ensures,
      c.field_name.ensures,
      c.number.ensures,
      c.empty.ensures,
      put_puts,
    ) (simp puts_append (shows (difference_line start.n start.f start.x start.y) (difference_fits start.n start.f start.x start.y)))
