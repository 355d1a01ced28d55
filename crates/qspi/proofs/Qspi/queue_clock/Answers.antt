use mathlib.Core.Path.{sym, ◌∙◌}
use Rattle.qspi.specs.model.Queue.{queue_clock}
use Rattle.qspi.proofs.Qspi.queue_clock.Goals as goal

pub returns-then-spe : goal.returns-then-spe
unfolding queue_clock
returns-then-spe c = rw (c.clock_at.ensures, sym c.spe.ensures ∙ c.if-spe.true)

pub returns-else-spe : goal.returns-else-spe
unfolding queue_clock
returns-else-spe c = rw (sym c.spe.ensures ∙ c.if-spe.false)
