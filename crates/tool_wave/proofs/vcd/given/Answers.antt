use Rattle.text.proofs.Puts.{puts_append}
use Rattle.tool_wave.proofs.vcd.given.Goals as goal

pub returns : goal.returns
returns c =
    rw (
      c.values-2.ensures,
      c.rxd-2.ensures,
      c.rxd.ensures,
      c.values.ensures,
      c.inputs-2.ensures,
      c.inputs.ensures,
    ) (simp puts_append)
