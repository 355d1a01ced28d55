use Rattle.text.specs.Noise.{line_noise}
use Rattle.text.proofs.Puts.{put_puts, puts_append, shows}
use Rattle.text.proofs.Fields.{line_noise_fits}
use Rattle.text.proofs.noise.line_noise.Goals as goal

pub returns : goal.returns
returns c =
    let start = c.args in
    rw (
      c.put.ensures,
      c.decimal-3.ensures,
      c.write-3.ensures,
      c.decimal-2.ensures,
      c.write-2.ensures,
      c.decimal.ensures,
      c.write.ensures,
      c.empty.ensures,
      put_puts,
    ) (simp puts_append (shows (line_noise start.number start.total start.worst) (line_noise_fits start.number start.total start.worst)))
