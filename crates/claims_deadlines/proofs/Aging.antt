-- The age of a word that waits, over the steps of the serial half. Assumes nothing.
use mathlib.Core.Path.{◌≡◌}
use mathlib.Core.Bool.{true, cond, ◌&&◌}
use mathlib.Core.List.{List, [], ◌∷◌}
use Prim.Native.Nat.{ℕ, suc, ◌<◌}
use Rattle.sci.specs.model.Control.{RE}
use Rattle.sci.specs.model.Receiver.{full}
use Rattle.sci.specs.model.Serial.{clocked}
use Rattle.sci.specs.claims.History.{Step, reset, clock, reads, writesSccr0, writesSccr1, writesScdr, step}
use Rattle.sci.specs.declared.serial.Sci.{Sci}

-- The age of a word over a step, and that it is below the limit.
abbrev pub aged : Step → Sci → ℕ → ℕ
aged reset s k = k
aged (clock x) s k = cond (full s.status && full (clocked s x).status) (suc k) 0
aged (reads scsr scdr) s k = k
aged (writesSccr0 v upper lower) s k = k
aged (writesSccr1 v upper lower) s k = k
aged (writesScdr v upper lower) s k = k

abbrev pub Below : ℕ → Step → Sci → ℕ → Type 0
Below limit reset s k = Unit {0}
Below limit (clock x) s k = aged (clock x) s k < limit
Below limit (reads scsr scdr) s k = Unit {0}
Below limit (writesSccr0 v upper lower) s k = Unit {0}
Below limit (writesSccr1 v upper lower) s k = Unit {0}
Below limit (writesScdr v upper lower) s k = Unit {0}

abbrev pub aged_all : List Step → Sci → ℕ → ℕ
aged_all [] s k = k
aged_all (e ∷ es) s k = aged_all es (step e s) (aged e s k)

abbrev pub InSteps : ℕ → List Step → Sci → ℕ → Type 0
InSteps limit [] s k = Unit {0}
InSteps limit (e ∷ es) s k = Below limit e s k × InSteps limit es (step e s) (aged e s k)

abbrev pub KeepsSteps : List Step → Sci → Type 0
KeepsSteps [] s = Unit {0}
KeepsSteps (e ∷ es) s = (RE (step e s).sccr1 ≡ true) × KeepsSteps es (step e s)
