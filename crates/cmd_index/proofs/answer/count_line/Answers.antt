use Rattle.text.proofs.Puts.{put_puts, puts_append, shows}
use Rattle.cmd_index.specs.Answer.{count_line}
use Rattle.cmd_index.proofs.Telling.{count_fits}
use Rattle.cmd_index.proofs.answer.count_line.Goals as goal

pub returns : goal.returns
returns c =
    let args = c.args in
    rw (
      c.put.ensures,
      c.decimal-2.ensures,
      c.write-2.ensures,
      c.decimal.ensures,
      c.write.ensures,
      c.empty.ensures,
      put_puts,
    ) (simp puts_append (shows (count_line args.marks args.records) (count_fits args.marks args.records)))
