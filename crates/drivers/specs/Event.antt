-- Document 02, L11: events of the host and of the two drivers, and the step from one to the next.
use Rattle.std.specs.Prelude.{Bool, false, cond, not, ◌&&◌, ◌||◌, ℕ}
use Rattle.qspi.specs.model.Outputs.{enabled}
use Rattle.qsm.specs.model.Event.{answer_of}
use Rattle.qsm.specs.model.Event as model
use Rattle.qsm.specs.declared.event.Event as below
use Rattle.qsm.specs.declared.event.Event.TheVariants as event
use Rattle.drivers.specs.State.{other, number_of, holds, proper, begun}
use Rattle.drivers.specs.Reach.{admits, allows}
use Rattle.drivers.specs.declared.state.Shared.{Shared}
use Rattle.drivers.specs.declared.event.Event.{Event}
use Rattle.drivers.specs.declared.event.Event.TheVariants.{Reset, Hold, Access, Drive, Claim, Release}
use Rattle.drivers.specs.declared.event.Stepped.{Stepped}

-- An answer where nothing happens to the module: value 0.
unfoldable pub told : Shared → ℕ → Stepped
told d refusal = record { state = d; answer = answer_of d.qsm refusal 0 }

-- An event of the module, played by it.
unfoldable pub played : Shared → below.Event → Stepped
played d e =
    record {
      state = record { qsm = (model.step d.qsm e).state; split = d.split; holder = d.holder };
      answer = (model.step d.qsm e).answer;
    }

abbrev pub with_split : Shared → ℕ → Shared
with_split d s = record { qsm = d.qsm; split = s; holder = d.holder }

abbrev pub with_holder : Shared → ℕ → Shared
with_holder d holder = record { qsm = d.qsm; split = d.split; holder = holder }

-- Refusal 9. An access comes to it after 1, 2 and privilege, and to 3 and 4, which are the module's, after it.
unfoldable pub refuses : Shared → Event → Bool
refuses d (Reset s) = not (begun d) && not (proper s)
refuses d (Hold pins rxd n) = false
refuses d (Access a) = false
refuses d (Drive who a) = admits d.qsm a && not (allows d who a)
refuses d (Claim who) = not (begun d) || holds d (other who)
refuses d (Release who) = (not (begun d) || not (holds d who)) || enabled d.qsm.qspi

-- The first reset fixes s; later ones keep it.
abbrev pub fixed : Shared → ℕ → Shared
fixed d s = cond (begun d) d (with_split d s)

-- Each reset ends a claim.
unfoldable pub restarted : Shared → ℕ → Stepped
restarted d s = played (with_holder (fixed d s) 0) event.Reset

-- What is not refused 9: a driver's access is an access of the module.
unfoldable pub does : Shared → Event → Stepped
does d (Reset s) = restarted d s
does d (Hold pins rxd n) = played d (event.Hold pins rxd n)
does d (Access a) = played d (event.Access a)
does d (Drive who a) = played d (event.Access a)
does d (Claim who) = told (with_holder d (number_of who)) 0
does d (Release who) = told (with_holder d 0) 0

-- The step from one event to the next.
unfoldable pub step : Shared → Event → Stepped
step d e = cond (refuses d e) (told d 9) (does d e)
