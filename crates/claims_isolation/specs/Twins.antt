-- Document 02, L11: two histories that differ only in words that one driver writes to its transmit RAM and in MISO levels while its entries
-- run, and what the other driver is then answered.
use Rattle.std.specs.Prelude.{◌≡◌, Bool, true, false, not, ◌&&◌, ◌||◌, List, [], ◌∷◌, ℕ, suc, ◌+◌, ◌/◌, ◌<◌, eqb}
use Rattle.steps.specs.Iterate.{iterate}
use Rattle.qsm.specs.model.Map.{decode}
use Rattle.qsm.specs.model.Event.{held, clocks, passes}
use Rattle.qsm.specs.declared.map.QueueWord.TheVariants.{Spcr0, Spcr1, Spcr2, Spcr3Spsr, Receive, Transmit, Command}
use Rattle.qsm.specs.declared.map.Place.{Place}
use Rattle.qsm.specs.declared.map.Place.TheVariants.{Own, Serial, Queue, Hole}
use Rattle.qsm.specs.declared.event.Access.TheVariants.{Write}
use Rattle.qsm.specs.declared.event.Answer.{Answer}
use Rattle.drivers.specs.State.{other, number_of, owns}
use Rattle.drivers.specs.Event.{step}
use Rattle.drivers.specs.declared.state.Driver.{Driver}
use Rattle.drivers.specs.declared.state.Shared.{Shared}
use Rattle.drivers.specs.declared.event.Event.{Event}
use Rattle.drivers.specs.declared.event.Event.TheVariants.{Reset, Hold, Access, Drive, Claim, Release}
use Rattle.claims_isolation.specs.Running.{runs_one_of}

-- An access to transmit words alone. (Those of the other driver are refused 9.)
abbrev pub is_transmit : Place → Bool
is_transmit (Own w) = false
is_transmit (Serial w) = false
is_transmit (Queue Spcr0) = false
is_transmit (Queue Spcr1) = false
is_transmit (Queue Spcr2) = false
is_transmit (Queue Spcr3Spsr) = false
is_transmit (Queue (Receive i)) = false
is_transmit (Queue (Transmit i)) = true
is_transmit (Queue (Command i)) = false
is_transmit Hole = false

abbrev pub to_transmit : ℕ → ℕ → Bool
to_transmit width offset = is_transmit (decode offset) && (not (eqb width 4) || is_transmit (decode (offset + 2)))

-- Two holds from one state: all levels but MISO's (pin 0) are the same, and MISO's is too in each clock in which an entry of the other driver
-- runs. In every other clock of the hold it may differ: while an entry of `who` runs, in delays, and while no entry runs.
pub record HeldAlike (who : Driver) (d : Shared) (pins pins' : ℕ) (rxd : Bool) (n : ℕ) : Type 0 where
  pub others : pins / 2 ≡ pins' / 2
  pub miso : (k : ℕ) → k < n → runs_one_of (owns d.split (other who)) (clocks (held d.qsm pins) rxd k).qspi ≡ true → pins ≡ pins'

-- What may stand at one place of the two histories: the same event, whoever's it is and whatever it does; two writes of `who` to transmit
-- words; two such holds. So resets, the host's accesses, claims, releases and all accesses of the other driver are the same in both.
pub data Twin (who : Driver) (d : Shared) : Event → Event → Type 0 where
  same : (e : Event) → Twin who d e e
  words : (supervisor : Bool) (width offset value value' : ℕ) → to_transmit width offset ≡ true →
      Twin who d (Drive who (Write supervisor width offset value)) (Drive who (Write supervisor width offset value'))
  levels : (pins pins' : ℕ) (rxd : Bool) (n : ℕ) → HeldAlike who d pins pins' rxd n → Twin who d (Hold pins rxd n) (Hold pins' rxd n)

-- Two lists, from states of which the first is d.
abbrev pub Twins : Driver → Shared → List Event → List Event → Type 0
Twins who d [] [] = Unit {0}
Twins who d [] (e ∷ es) = ⊥
Twins who d (e ∷ es) [] = ⊥
Twins who d (e ∷ es) (e' ∷ es') = Twin who d e e' × Twins who (step d e).state es es'

-- An access, a claim or a release of a driver.
abbrev pub is_of : Driver → Event → Bool
is_of who (Reset s) = false
is_of who (Hold pins rxd n) = false
is_of who (Access a) = false
is_of who (Drive by a) = eqb (number_of by) (number_of who)
is_of who (Claim by) = eqb (number_of by) (number_of who)
is_of who (Release by) = eqb (number_of by) (number_of who)

-- Answers that are the same in refusal, value, request level and vector; in the count of clocks too. Pin levels, which show MOSI, are not
-- compared.
pub record Agree (a b : Answer) : Type 0 where
  pub refusal : a.refusal ≡ b.refusal
  pub value : a.value ≡ b.value
  pub level : a.level ≡ b.level
  pub vector : a.vector ≡ b.vector
  pub clock : a.clock ≡ b.clock

-- Every answer to a driver in the one history and in the other.
abbrev pub Answered : Driver → Shared → List Event → Shared → List Event → Type 0
Answered who d [] d' [] = Unit {0}
Answered who d [] d' (e' ∷ es') = ⊥
Answered who d (e ∷ es) d' [] = ⊥
Answered who d (e ∷ es) d' (e' ∷ es') =
    (is_of who e ≡ true → Agree (step d e).answer (step d' e').answer) × Answered who (step d e).state es (step d' e').state es'

-- Neither sees the other, from any state on, and so from the first reset on.
abbrev pub NeitherSees : Type 0
NeitherSees = (who : Driver) (d : Shared) (es es' : List Event) → Twins who d es es' → Answered (other who) d es d es'

-- In no clock an entry of each runs: so where one of `who` runs MISO may differ, in a hold of that clock.
abbrev pub ItsClock : Type 0
ItsClock =
    (who : Driver) (d : Shared) (pins pins' : ℕ) (rxd : Bool) → pins / 2 ≡ pins' / 2 →
    runs_one_of (owns d.split who) d.qsm.qspi ≡ true → HeldAlike who d pins pins' rxd 1

-- And every hold, of one clock at least and not refused 10, leaves what holds of one clock leave: none is left out, however many entries it
-- spans.
abbrev pub ClockByClock : Type 0
ClockByClock =
    (d : Shared) (pins : ℕ) (rxd : Bool) (n : ℕ) → passes d.qsm (suc n) ≡ false →
    (step d (Hold pins rxd (suc n))).state ≡ iterate (suc n) (λ r. (step r (Hold pins rxd 1)).state) d

pub record Isolation : Type 0 where
  pub neither_sees : NeitherSees
  pub its_clock : ItsClock
  pub clock_by_clock : ClockByClock
