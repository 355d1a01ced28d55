-- Document 01, Receiver: while RE is clear, from a reset on, the receiver is in its start state. So what it has heard when RE is set again, or
-- for the first time, is nothing: `ThreeBefore` then tells the samples since RE rose. That RAF falls with RE is in `FlagsFall`.
use Rattle.std.specs.Prelude.{◌≡◌, false, List}
use Rattle.sci.specs.model.Receiver.{start_state}
use Rattle.sci.specs.declared.receiver.Receiver.{Receiver}
use Rattle.qsm.specs.model.State.{reset_module}
use Rattle.qsm.specs.declared.event.Event.{Event}
use Rattle.claims_clauses.specs.FlagsFall.{RE}
use Rattle.claims_clauses.specs.SeenBy.{run}

-- Searching, no ones seen, count 0, no frame since; and nothing else is left of what it heard.
pub record Off (r : Receiver) : Type 0 where
  pub searching : r.framer.framing ≡ false
  pub first : r.last1 ≡ false
  pub second : r.last2 ≡ false
  pub third : r.last3 ≡ false
  pub count : r.idle ≡ 0
  pub since : r.since ≡ false
  pub start : r ≡ start_state r

abbrev pub WhileOff : Type 0
WhileOff = (es : List Event) → RE (run es reset_module) ≡ false → Off (run es reset_module).sci.receiver
