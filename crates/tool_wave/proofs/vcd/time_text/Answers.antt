use native.Mathlib.Omega.{arith}
use Rattle.text.proofs.Puts.{put_puts, puts_append, shows}
use Rattle.tool_wave.specs.Vcd.{time_text}
use Rattle.tool_wave.proofs.Signs.{time_length}
use Rattle.tool_wave.proofs.vcd.time_text.Goals as goal

pub returns : goal.returns
returns c =
    let start = c.args in
    rw (
      c.put-2.ensures,
      c.time.ensures,
      c.put.ensures,
      c.empty.ensures,
    ) (simp (put_puts, puts_append) (shows (time_text start.hz start.n) (omega (arith, time_length start.hz start.n))))
