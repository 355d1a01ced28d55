-- A serial half whose receiver is on and awake, while it is read and written: what it hears on RXD, and the frames that it takes.
use mathlib.Core.Bool.{Bool, true, false, cond, ◌&&◌}
use mathlib.Core.List.{List, [], ◌∷◌, ◌++◌}
use mathlib.Core.Path.{◌≡◌}
use Prim.Native.Nat.{◌*◌, ◌^◌, ◌<◌}
use Rattle.sci.specs.model.Control.{SCBR, RE}
use Rattle.sci.specs.model.Framer.{searching, frame_of}
use Rattle.sci.specs.model.Receiver.{outcome}
use Rattle.sci.specs.model.Transmitter.{sent}
use Rattle.sci.specs.claims.History.{Step, reset, clock, reads, writesSccr0, writesSccr1, writesScdr, step, sampling}
use Rattle.sci.specs.declared.framer.Frame.{Frame}
use Rattle.sci.specs.declared.serial.Sci.{Sci}

-- RXD's level, clock by clock.
abbrev pub level_at : Step → List Bool
level_at reset = []
level_at (clock x) = x ∷ []
level_at (reads scsr scdr) = []
level_at (writesSccr0 v upper lower) = []
level_at (writesSccr1 v upper lower) = []
level_at (writesScdr v upper lower) = []

unfoldable pub rxd_in : List Step → List Bool
rxd_in [] = []
rxd_in (e ∷ es) = level_at e ++ rxd_in es

-- The frames taken, into SCDR or lost.
abbrev pub taken_at : Step → Sci → List Frame
taken_at reset s = []
taken_at (clock x) s =
    cond (sampling s && (outcome s.receiver (sent s.transmitter s.status s.sccr1).status s.sccr1 x).taken)
    (frame_of s.receiver.framer x ∷ [])
    []
taken_at (reads scsr scdr) s = []
taken_at (writesSccr0 v upper lower) s = []
taken_at (writesSccr1 v upper lower) s = []
taken_at (writesScdr v upper lower) s = []

unfoldable pub taken_in : List Step → Sci → List Frame
taken_in [] s = []
taken_in (e ∷ es) s = taken_at e s ++ taken_in es (step e s)

abbrev pub resets : Step → Bool
resets reset = true
resets (clock x) = false
resets (reads scsr scdr) = false
resets (writesSccr0 v upper lower) = false
resets (writesSccr1 v upper lower) = false
resets (writesScdr v upper lower) = false

-- The receiver is on and awake. SCCR0 has 13 bits, and the prescaler counts to 2 x SCBR.
pub record On (s : Sci) : Type 0 where
  pub on : RE s.sccr1 ≡ true
  pub awake : s.receiver.asleep ≡ false
  pub whole : s.sccr0 < 2 ^ 13
  pub phase : s.prescaler < 2 * SCBR s.sccr0

-- No reset; on and not asleep, RE set and RWU clear, after each step. All else is free: reads, SCDR, TE, the requests, writes that are refused.
unfoldable pub StaysAwake : List Step → Sci → Type 0
StaysAwake [] s = Unit {0}
StaysAwake (e ∷ es) s =
    (resets e ≡ false) × (RE (step e s).sccr1 ≡ true) × ((step e s).receiver.asleep ≡ false) × StaysAwake es (step e s)

-- It searches after three ones.
pub record Ready (s : Sci) : Type 0 where
  pub on : On s
  pub searches : s.receiver.framer ≡ searching
  pub one1 : s.receiver.last1 ≡ true
  pub one2 : s.receiver.last2 ≡ true
  pub one3 : s.receiver.last3 ≡ true
