-- What a host does with the module that it keeps: calls of the entries in place, one after another.
use Rattle.std.specs.Prelude.{List, [], ◌∷◌, ◌≡◌}
use Rattle.qsm.specs.model.Event.{step}
use Rattle.qsm.specs.declared.state.Module.{Module}
use Rattle.qsm.specs.declared.event.Answer.{Answer}
use Rattle.qsm.specs.declared.event.Event.{Event}
use Rattle.host.specs.Host.{Applied}
use Rattle.claims_histories.specs.History.{run}

-- A call: its event, the module that it leaves, and its answer.
pub record Call : Type 0 where
  pub event : Event
  pub left : Module
  pub answer : Answer

abbrev pub events : List Call → List Event
events [] = []
events (c ∷ cs) = c.event ∷ events cs

-- Each call is on the module that the last one left, and keeps its entry's contract.
abbrev pub Kept : Module → List Call → Type 0
Kept m [] = Unit {0}
Kept m (c ∷ cs) = Applied m c.event c.left c.answer × Kept c.left cs

abbrev pub finally : Module → List Call → Module
finally m [] = m
finally m (c ∷ cs) = finally c.left cs

-- The fold of the step over a list of events.
abbrev pub folded : Module → List Event → List Call
folded m [] = []
folded m (e ∷ es) = record { event = e; left = (step m e).state; answer = (step m e).answer } ∷ folded (step m e).state es

-- A host's calls give what the fold of the step gives, every module and every answer; any list of events can be called; and what they
-- leave is the module that demands 2 and 3 speak of. Demand 1 is of each step by itself.
pub record Hosted : Type 0 where
  pub fold : (m : Module) (cs : List Call) → Kept m cs → cs ≡ folded m (events cs)
  pub any : (m : Module) (es : List Event) → Kept m (folded m es)
  pub history : (m : Module) (cs : List Call) → Kept m cs → finally m cs ≡ run (events cs) m
