use native.Mathlib.Numerals.{add-one}
use Rattle.tool_wave.proofs.Meaning.{one_clock_holds}
use Rattle.tool_wave.proofs.probe.Probe.tick.Goals as goal

pub returns : goal.returns
returns c =
    rw (
      c.edge-kept.ensures,
      c.shown.ensures,
      c.ends.ensures,
      c.ahead-next.ensures,
      one_clock_holds c.args.self.device c.args.self.rxd c.requires.1,
      add-one c.args.self.clock,
    )
