use Rattle.text.specs.Verdict.{refused_line}
use Rattle.text.proofs.Puts.{put_puts, puts_append, shows}
use Rattle.text.proofs.Fields.{refused_fits}
use Rattle.text.proofs.verdict.refused_line.Goals as goal

pub returns : goal.returns
returns c =
    let start = c.args in
    rw (
      c.put.ensures,
      c.why.ensures,
      c.decimal.ensures,
      c.write.ensures,
      c.empty.ensures,
      put_puts,
    ) (simp puts_append (shows (refused_line start.refusal) (refused_fits start.refusal)))
