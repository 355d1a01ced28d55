-- What a host sees of pins, requests, seen flags and registers, over every module and every event: document 01's sentences, beside the
-- definitions that compute them.
use Rattle.qsm.specs.model.Event.{step}
use Rattle.qsm.specs.claims.StatusFlags.{Flag}
use Rattle.qsm.specs.claims.RequestClauses.{RequestClauses}
use Rattle.qsm.specs.claims.PinClauses.{PinClauses, LastInput}
use Rattle.qsm.specs.claims.SeenClauses.{SeenClauses}
use Rattle.qsm.specs.claims.Registers.{Registers}
use Rattle.qsm.specs.claims.Witness.{Met}
use Rattle.qsm.specs.declared.state.Module.{Module}
use Rattle.qsm.specs.declared.event.Access.{Access}
use Rattle.qsm.specs.declared.event.Event.{Event}

pub record Claims : Type 0 where
  pub requests : (m : Module) (e : Event) → RequestClauses (step m e).state (step m e).answer
  pub pins : (m : Module) (e : Event) → PinClauses (step m e).state (step m e).answer
  pub last_input_holds : LastInput
  pub seen : (m : Module) (a : Access) (f : Flag) → SeenClauses m a f
  pub registers : Registers
  pub met : Met
