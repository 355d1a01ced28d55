use mathlib.Core.Path.{◌≡◌}
use Prim.Native.Nat.{◌-◌}
use Rattle.steps.specs.Iterate.{iterate}
use Rattle.qspi.specs.model.Entry.{pushed}
use Rattle.qspi.proofs.falls.collected_since.Given as goal

abbrev pub invariant-loop : goal.invariant-loop
invariant-loop l =
    iterate (l.end - l.counter) (λ b. pushed b l.miso) l.c
    ≡ iterate (l.end - l.initial.counter) (λ b. pushed b l.miso) l.initial.c
