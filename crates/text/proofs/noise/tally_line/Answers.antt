use Rattle.text.specs.Noise.{tally_line}
use Rattle.text.proofs.Puts.{put_puts, puts_append, shows}
use Rattle.text.proofs.Fields.{tally_fits}
use Rattle.text.proofs.noise.tally_line.Goals as goal

pub returns : goal.returns
returns c =
    let start = c.args in
    rw (
      c.put.ensures,
      c.decimal-3.ensures,
      c.write-3.ensures,
      c.decimal-2.ensures,
      c.write-2.ensures,
      c.decimal.ensures,
      c.write.ensures,
      c.empty.ensures,
      put_puts,
    ) (simp puts_append (shows (tally_line start.words start.noisy start.worst) (tally_fits start.words start.noisy start.worst)))
