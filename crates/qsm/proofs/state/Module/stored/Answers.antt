use native.Mathlib.Numerals.{add-one}
use Rattle.steps.specs.Iterate.{iterate}
use Rattle.qsm.proofs.state.Module.stored.Goals as goal

pub loop-preserved : goal.loop-preserved
unfolding iterate
loop-preserved c = rw (add-one, c.store-s.ensures, c.loop.invariant)
