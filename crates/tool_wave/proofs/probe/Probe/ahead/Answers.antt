use borrow.Author.Tests.{ne_eqb}
use Rattle.qsm.specs.model.Event.{does}
use Rattle.tool_wave.proofs.probe.Probe.ahead.Goals as goal

pub returns : goal.returns
unfolding does
returns c =
    rw (
      c.none-none.ensures,
      c.hold-s.ensures,
      ne_eqb _ _ c.if-n-eq0.false,
    )
