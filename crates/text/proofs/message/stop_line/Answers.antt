use Rattle.text.specs.Message.{stop_line}
use Rattle.text.proofs.Puts.{put_puts, puts_append, shows}
use Rattle.text.proofs.Messages.{stop_fits}
use Rattle.text.proofs.message.stop_line.Goals as goal

pub returns : goal.returns
returns c =
    let args = c.args in
    rw (
      c.put.ensures,
      c.located.ensures,
      c.write-3.ensures,
      c.stop_words.ensures,
      c.write-2.ensures,
      c.decimal.ensures,
      c.stop_number.ensures,
      c.write.ensures,
      c.empty.ensures,
      put_puts,
    )
    (simp puts_append
    (shows (stop_line args.stop args.number args.place)
    (stop_fits args.stop args.number args.place)))
