use Rattle.tool_wave.proofs.Meaning.{rooms}
use Rattle.tool_wave.proofs.Waves.hold_out.Goals as goal

pub ahead-probe-requires : goal.ahead-probe-requires
ahead-probe-requires c = (rooms c.args.self.probe c.args.self.left c.requires).1

pub returns : goal.returns
returns c = rw c.ahead-probe.ensures
