use Rattle.text.proofs.Puts.{put_puts, puts_append}
use Rattle.tool_wave.specs.Vcd.{nine}
use Rattle.tool_wave.proofs.vcd.nine.Goals as goal

pub returns : goal.returns
unfolding nine
returns c =
    rw (
      c.put-9.ensures,
      c.digit-9.ensures,
      c.put-8.ensures,
      c.digit-8.ensures,
      c.put-7.ensures,
      c.digit-7.ensures,
      c.put-6.ensures,
      c.digit-6.ensures,
      c.put-5.ensures,
      c.digit-5.ensures,
      c.put-4.ensures,
      c.digit-4.ensures,
      c.put-3.ensures,
      c.digit-3.ensures,
      c.put-2.ensures,
      c.digit-2.ensures,
      c.put.ensures,
      c.digit.ensures,
    ) (simp (put_puts, puts_append))
