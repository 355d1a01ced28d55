use Rattle.text.specs.Verdict.{differ_line}
use Rattle.text.proofs.Puts.{put_puts, puts_append, shows}
use Rattle.text.proofs.Fields.{differ_fits}
use Rattle.text.proofs.verdict.differ_line.Goals as goal

pub returns : goal.returns
returns c =
    let start = c.args in
    rw (
      c.put.ensures,
      c.more-2.ensures,
      c.more.ensures,
      c.write-3.ensures,
      c.decimal-2.ensures,
      c.write-2.ensures,
      c.decimal.ensures,
      c.write.ensures,
      c.empty.ensures,
      put_puts,
    ) (simp puts_append (shows (differ_line start.differing start.answers start.first start.second) (differ_fits start.differing start.answers start.first start.second)))
