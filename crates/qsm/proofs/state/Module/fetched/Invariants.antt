use mathlib.Core.Path.{◌≡◌}
use Rattle.steps.specs.Iterate.{iterate}
use Rattle.qsm.specs.model.Access.{fetch}
use Rattle.qsm.proofs.state.Module.fetched.Given as goal

abbrev pub invariant-loop : goal.invariant-loop
invariant-loop l = l.w ≡ iterate l.counter (fetch l.self) l.initial.w
