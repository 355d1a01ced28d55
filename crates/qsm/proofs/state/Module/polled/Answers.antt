use Rattle.qsm.proofs.Straight.{read_straight}
use Rattle.qsm.proofs.state.Module.polled.Goals as goal

pub returns : goal.returns
returns c =
    rw (c.done.ensures, c.refusal_of.ensures, c.flags_seen-state.ensures, c.touches-3.ensures, c.touches-2.ensures, c.touches.ensures, c.value_if-value.ensures, c.permits-permitted.ensures, ← read_straight)
