use Rattle.text.proofs.Puts.{puts_append}
use Rattle.tool_wave.proofs.vcd.asked.Goals as goal

pub returns : goal.returns
returns c =
    rw (
      c.values-2.ensures,
      c.vector-2.ensures,
      c.vector.ensures,
      c.values.ensures,
      c.level-2.ensures,
      c.level.ensures,
    ) (simp puts_append)
