use Rattle.text.proofs.Puts.{put_puts, puts_append, shows}
use Rattle.cmd_lines.specs.Told.{drop_line}
use Rattle.cmd_lines.proofs.Telling.{drop_fits}
use Rattle.cmd_lines.proofs.told.drop_line.Goals as goal

pub returns : goal.returns
returns c =
    let args = c.args in
    rw (
      c.put.ensures,
      c.cause_words.ensures,
      c.write-start.ensures,
      c.decimal.ensures,
      c.write.ensures,
      c.empty.ensures,
      put_puts,
    ) (simp puts_append (shows (drop_line args.number args.cause) (drop_fits args.number args.cause)))
