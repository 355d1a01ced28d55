use Rattle.text.specs.Message.{fault_line}
use Rattle.text.proofs.Puts.{put_puts, puts_append, shows}
use Rattle.text.proofs.Messages.{fault_fits}
use Rattle.text.proofs.message.fault_line.Goals as goal

pub returns : goal.returns
returns c =
    let args = c.args in
    rw (
      c.put.ensures,
      c.fault_words.ensures,
      c.write.ensures,
      c.kind.ensures,
      c.empty.ensures,
      put_puts,
    )
    (simp puts_append
    (shows (fault_line args.traces args.fault args.number args.place)
    (fault_fits args.traces args.fault args.number args.place)))
