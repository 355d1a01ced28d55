-- The claim is about something: for each driver two histories, from the first reset on, that meet its hypotheses and in which that driver does
-- not read the same.
use Rattle.std.specs.Prelude.{◌≡◌, true, List, [], ◌∷◌, ◌++◌, ℕ, ◌+◌, ◌*◌}
use Rattle.qsm.specs.declared.event.Access.TheVariants.{Read, Write}
use Rattle.qsm.specs.declared.event.Answer.{Answer}
use Rattle.drivers.specs.State.{new_shared, other}
use Rattle.drivers.specs.Event.{step}
use Rattle.drivers.specs.declared.state.Driver.{Driver}
use Rattle.drivers.specs.declared.state.Driver.TheVariants.{Axis, Spindle}
use Rattle.drivers.specs.declared.state.Shared.{Shared}
use Rattle.drivers.specs.declared.event.Event.{Event}
use Rattle.drivers.specs.declared.event.Event.TheVariants.{Reset, Hold, Access, Drive, Claim, Release}
use Rattle.claims_isolation.specs.Twins.{Twins}

-- Words written and read as supervisor.
abbrev pub sets : Driver → ℕ → ℕ → Event
sets who offset value = Drive who (Write true 2 offset value)

abbrev pub gets : Driver → ℕ → Event
gets who offset = Drive who (Read true 2 offset)

abbrev pub set_up : ℕ → ℕ → Event
set_up offset value = Access (Write true 2 offset value)

-- s is 1. The host gives the queue level 3 and vector 41, assigns MISO and MOSI, and sets MSTR with SPBR 2: an entry of 8 bits has its edge 1,
-- where MISO is read, in clock 2 and its last in clock 32.
abbrev pub begins : List Event
begins = Reset 1 ∷ set_up 0x04 0x1B41 ∷ set_up 0x16 0x0302 ∷ set_up 0x18 0x8002 ∷ []

-- A driver runs its entry, with a request at its end: the word that it sends, and the levels in the entry's first two clocks.
abbrev pub entry_of : Driver → ℕ → ℕ → ℕ → List Event
entry_of who i word pins =
    sets who (0x120 + i * 2) word
    ∷ Claim who
    ∷ sets who 0x1C (0x8000 + i * 0x101)
    ∷ sets who 0x1A 0x8404
    ∷ Hold pins true 2
    ∷ Hold 0xFF true 30
    ∷ []

-- And reads what it received.
abbrev pub received : Driver → ℕ → Event
received who i = gets who (0x100 + i * 2)

abbrev pub reads_own : Driver → ℕ → ℕ → ℕ → List Event
reads_own who i word pins = begins ++ (entry_of who i word pins ++ (received who i ∷ []))

-- Then it clears SPIF and gives the claim up, and the other driver does the same with its entry j.
abbrev pub other_reads : Driver → ℕ → ℕ → List Event
other_reads who i j =
    received who i
    ∷ gets who 0x1E
    ∷ sets who 0x1E 0
    ∷ Release who
    ∷ (entry_of (other who) j 0x1234 0xFF ++ (received (other who) j ∷ []))

abbrev pub history : Driver → ℕ → ℕ → ℕ → ℕ → List Event
history who i j word pins = begins ++ (entry_of who i word pins ++ other_reads who i j)

-- The answer to the last event.
abbrev pub answer_from : Answer → Shared → List Event → Answer
answer_from a d [] = a
answer_from a d (e ∷ es) = answer_from (step d e).answer (step d e).state es

abbrev pub last_answer : List Event → Answer
last_answer es = answer_from (step new_shared (Hold 0 true 0)).answer new_shared es

-- Entry i is the one's and entry j the other's. With other words, and MISO low in clocks 1 and 2 of its entry, the one reads another word; and
-- the other reads its own, with its request standing.
pub record Met (who : Driver) (i j : ℕ) : Type 0 where
  pub twins : Twins who new_shared (history who i j 0xA5 0xFF) (history who i j 0x3C 0xFE)
  pub first : (last_answer (reads_own who i 0xA5 0xFF)).value ≡ 0xFF
  pub second : (last_answer (reads_own who i 0x3C 0xFE)).value ≡ 0x7F
  pub theirs : (last_answer (history who i j 0xA5 0xFF)).value ≡ 0xFF
  pub requested : (last_answer (history who i j 0xA5 0xFF)).level ≡ 3

pub record BothMet : Type 0 where
  pub axis : Met Axis 0 1
  pub spindle : Met Spindle 1 0
