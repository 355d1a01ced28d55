-- Document 02, L9: the count of clocks since reset, event by event.
use Rattle.std.specs.Prelude.{◌≡◌, Bool, cond, ℕ, ◌+◌, ◌≤◌, eqb}
use Rattle.qsm.specs.model.Event.{clock_limit, step}
use Rattle.qsm.specs.declared.state.Module.{Module}
use Rattle.qsm.specs.declared.event.Event.{Event}
use Rattle.qsm.specs.declared.event.Event.TheVariants.{Reset, Hold}
use Rattle.qsm.specs.declared.event.Event.TheVariants as event

-- Refused 10.
abbrev pub limited : Module → Event → Bool
limited m e = eqb (step m e).answer.refusal 10

-- 0 after a reset; after a hold that is not refused, as many more as it has clocks; else as it was, after refused and blocked accesses too.
abbrev pub count_after : Module → Event → ℕ
count_after m Reset = 0
count_after m (Hold pins rxd n) = cond (limited m (Hold pins rxd n)) m.clock (m.clock + n)
count_after m (event.Access a) = m.clock

-- The module counts so, the answer shows the count that the event leaves, and no count passes 2^64 - 1.
pub record Counting : Type 0 where
  pub counts : (m : Module) (e : Event) → (step m e).state.clock ≡ count_after m e
  pub shown : (m : Module) (e : Event) → (step m e).answer.clock ≡ (step m e).state.clock
  pub within : (m : Module) (e : Event) → m.clock ≤ clock_limit → (step m e).state.clock ≤ clock_limit
