use Rattle.qsm.specs.model.Event.{answer_of, step}
use Rattle.tool_wave.proofs.probe.Probe.accessed.Goals as goal

pub returns : goal.returns
unfolding step answer_of
returns c = rw c.step-s.ensures
