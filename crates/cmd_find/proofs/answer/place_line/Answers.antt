use Rattle.text.proofs.Puts.{put_puts, puts_append, shows}
use Rattle.cmd_find.specs.Answer.{place_line}
use Rattle.cmd_find.proofs.Telling.{place_fits}
use Rattle.cmd_find.proofs.answer.place_line.Goals as goal

pub returns : goal.returns
returns c =
    let args = c.args in
    rw (
      c.put.ensures,
      c.decimal-2.ensures,
      c.write-2.ensures,
      c.decimal.ensures,
      c.write.ensures,
      c.empty.ensures,
      put_puts,
    ) (simp puts_append (shows (place_line args.place args.resets) (place_fits args.place args.resets)))
