use Rattle.text.specs.Answer.{answer_line}
use Rattle.text.proofs.Puts.{put_puts, puts_append, shows}
use Rattle.text.proofs.Lengths.{answer_fits}
use Rattle.text.proofs.answer.answer_line.Goals as goal

pub returns : goal.returns
returns c =
    let args = c.args in
    rw (
      c.put.ensures,
      c.clock.ensures,
      c.fields.ensures,
      c.number.ensures,
      c.empty.ensures,
      put_puts,
    ) (simp puts_append (shows (answer_line args.n args.l) (answer_fits args.n args.l)))
