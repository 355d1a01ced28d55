use Rattle.text.specs.Verdict.{other_line}
use Rattle.text.proofs.Puts.{put_puts, puts_append, shows}
use Rattle.text.proofs.Fields.{other_fits}
use Rattle.text.proofs.verdict.other_line.Goals as goal

pub returns : goal.returns
returns c =
    let args = c.args in
    rw (
      c.put-2.ensures,
      c.expected.ensures,
      c.write-4.ensures,
      c.hex_byte.ensures,
      c.write-3.ensures,
      c.located.ensures,
      c.write-2.ensures,
      c.put.ensures,
      c.write.ensures,
      c.empty.ensures,
    )
    (simp (put_puts, puts_append)
    (shows (other_line args.letter args.answer args.place args.byte args.kind)
    (other_fits args.letter args.answer args.place args.byte args.kind)))
