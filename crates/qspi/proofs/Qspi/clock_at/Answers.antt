use Rattle.qspi.proofs.Begun.{begun_first}
use Rattle.qspi.proofs.Qspi.clock_at.Goals as goal

pub returns : goal.returns
returns c =
    rw (c.run_clock.ensures, c.begun_if-q.ensures, c.ready.ensures)
    (begun_first c.args.miso c.args.self)
