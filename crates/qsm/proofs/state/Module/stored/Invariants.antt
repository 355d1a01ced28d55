use mathlib.Core.Path.{◌≡◌}
use Rattle.steps.specs.Iterate.{iterate}
use Rattle.qsm.specs.model.Access.{store}
use Rattle.qsm.proofs.state.Module.stored.Given as goal

abbrev pub invariant-loop : goal.invariant-loop
invariant-loop l = l.s ≡ iterate l.counter (store l.upper l.lower) l.initial.s
