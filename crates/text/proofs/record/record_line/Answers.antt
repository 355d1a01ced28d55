use Rattle.text.specs.Record.{record_line}
use Rattle.text.proofs.Puts.{put_puts, puts_append, shows}
use Rattle.text.proofs.Lengths.{record_fits}
use Rattle.text.proofs.record.record_line.Goals as goal

pub returns : goal.returns
returns c =
    rw (
      c.put.ensures,
      c.event.ensures,
      c.long.ensures,
      c.number.ensures,
      c.empty.ensures,
      put_puts,
    ) (simp puts_append (shows (record_line c.args.n c.args.kind c.args.e) (record_fits c.args.n c.args.kind c.args.e)))
