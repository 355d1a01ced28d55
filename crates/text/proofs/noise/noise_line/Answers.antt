use Rattle.text.specs.Noise.{noise_line}
use Rattle.text.proofs.Puts.{put_puts, puts_append, shows}
use Rattle.text.proofs.Fields.{noise_fits}
use Rattle.text.proofs.noise.noise_line.Goals as goal

pub returns : goal.returns
returns c =
    let start = c.args in
    rw (
      c.put.ensures,
      c.decimal.ensures,
      c.write.ensures,
      c.number.ensures,
      c.empty.ensures,
      put_puts,
    ) (simp puts_append (shows (noise_line start.n start.figure) (noise_fits start.n start.figure)))
