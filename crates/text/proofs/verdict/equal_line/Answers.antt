use Rattle.text.specs.Verdict.{equal_line}
use Rattle.text.proofs.Puts.{put_puts, puts_append, shows}
use Rattle.text.proofs.Fields.{equal_fits}
use Rattle.text.proofs.verdict.equal_line.Goals as goal

pub returns : goal.returns
returns c =
    let start = c.args in
    rw (
      c.put.ensures,
      c.write-2.ensures,
      c.decimal.ensures,
      c.write.ensures,
      c.empty.ensures,
      put_puts,
    ) (simp puts_append (shows (equal_line start.answers) (equal_fits start.answers)))
