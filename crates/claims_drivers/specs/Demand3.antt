-- Document 02, L11: demand 3's lists hold driver accesses, claims and releases too. A list of events of the host and the drivers has the module that the list
-- of its events that come to the module has, so that demand 3 speaks of it.
use Rattle.std.specs.Prelude.{Bool, List, [], ◌∷◌, ◌++◌, ◌≡◌, ℕ}
use Rattle.sci.specs.model.Control.{settings}
use Rattle.sci.specs.claims.Overrun.{Overrun}
use Rattle.qsm.specs.model.State.{reset_module}
use Rattle.qsm.specs.declared.state.Module.{Module}
use Rattle.qsm.specs.declared.event.Access.TheVariants.{Read}
use Rattle.qsm.specs.declared.event.Event as below
use Rattle.qsm.specs.declared.event.Event.TheVariants as event
use Rattle.claims_histories.specs.History.{after, run, Unbroken, ops, watched, log}
use Rattle.claims_histories.specs.Demand3.{Recovers, Compared, Demand3}
use Rattle.drivers.specs.State.{new_shared}
use Rattle.drivers.specs.Event.{step}
use Rattle.drivers.specs.declared.state.Shared.{Shared}
use Rattle.drivers.specs.declared.event.Event.{Event}
use Rattle.claims_drivers.specs.Driven.{left, comes_to, drives}

-- The module after a list is the module after what came to it; and a list cut in two is played in two.
abbrev pub Follows : Type 0
Follows = (es : List Event) (d : Shared) → (left es d).qsm ≡ run (drives es d) d.qsm

abbrev pub Joins : Type 0
Joins = (es fs : List Event) (d : Shared) → drives (es ++ fs) d ≡ drives es d ++ drives fs (left es d)

-- Demand 3's recovery, of these lists: a beginning leaves the receiver on and not asleep; then ones enough and, by the host or a driver, a status read that
-- shows no receive flag. From there on the receiver is as any that is compared with, in a list of its own that may be the drivers' too.
abbrev pub Recovered : Type 0
Recovered =
    (before quiet : List Event) (look : Event) (supervisor : Bool) (width offset : ℕ) (early : List below.Event)
    (enable : below.Event) (waited : List below.Event) (later : List Event) (later' : List below.Event) →
    let d : Shared = left before new_shared in
    let l : Shared = left quiet d in
    let z : Shared = (step l look).state in
    let c : Module = after enable (run early reset_module) in
    let y : Module = run waited c in
    comes_to l look ≡ event.Access (Read supervisor width offset) ∷ [] →
    Recovers d.qsm (drives quiet d) supervisor width offset → Compared early enable waited →
    settings d.qsm.sci.sccr1 ≡ settings c.sci.sccr1 → Unbroken (drives later z) z.qsm → Unbroken later' y →
    ops (drives later z) z.qsm ≡ ops later' y → watched (drives later z) z.qsm ≡ watched later' y

pub record DrivenDemand3 : Type 0 where
  pub follows : Follows
  pub joins : Joins
  -- Of the lists that come to the module, as of all.
  pub demand3 : Demand3
  pub recovered : Recovered
  -- No word past a loss that wasn't seen.
  pub overrun : (es : List Event) → Overrun (log (drives es new_shared) reset_module)
