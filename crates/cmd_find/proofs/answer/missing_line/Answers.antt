use Rattle.text.proofs.Puts.{put_puts, puts_append, shows}
use Rattle.cmd_find.specs.Answer.{missing_line}
use Rattle.cmd_find.proofs.Telling.{missing_fits}
use Rattle.cmd_find.proofs.answer.missing_line.Goals as goal

pub returns : goal.returns
returns c =
    let args = c.args in
    rw (c.put.ensures, c.decimal.ensures, c.write.ensures, c.empty.ensures, put_puts)
    (simp puts_append (shows (missing_line args.number) (missing_fits args.number)))
