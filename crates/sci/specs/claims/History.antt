-- The serial half from reset on: what can happen to it, one step at a time, and what of it reaches the receiver.
use Rattle.std.specs.Prelude.{Bool, true, false, cond, not, ◌&&◌, List, [], ◌∷◌, ◌++◌, ◌≡◌, ℕ}
use Rattle.std.proofs.Math.Option.{none}
use Rattle.sci.specs.model.Control.{RE}
use Rattle.sci.specs.claims.Line.{Op, sample, read, read_status, delivers, shown, Seen}
use Rattle.sci.specs.model.Parts.{with_status}
use Rattle.sci.specs.model.Serial.{reset_sci, active, due, clocked, data_written, wrote_sccr0, wrote_sccr1, sccr0_guarded, sccr1_guarded}
use Rattle.sci.specs.declared.receiver.Received.{Received}
use Rattle.sci.specs.declared.serial.Sci.{Sci}

-- A reset, a system clock with RXD's level, and the permitted accesses: a read of bytes 0C to 0F by what it touches of SCSR and of SCDR's
-- low byte; a write of SCCR0, SCCR1 or SCDR by the bytes that it touches.
pub data Step : Type 0 where
  reset : Step
  clock : (rxd : Bool) → Step
  reads : (scsr scdr : Bool) → Step
  writesSccr0 writesSccr1 writesScdr : (v : ℕ) (upper lower : Bool) → Step

-- A guarded write is refused and changes nothing.
unfoldable pub step : Step → Sci → Sci
step reset s = reset_sci
step (clock x) s = clocked s x
step (reads scsr scdr) s = with_status s (read_status scsr scdr s.status)
step (writesSccr0 v upper lower) s = cond (sccr0_guarded s v upper lower) s (wrote_sccr0 s v upper lower)
step (writesSccr1 v upper lower) s = cond (sccr1_guarded s v upper lower) s (wrote_sccr1 s v upper lower)
step (writesScdr v upper lower) s = data_written lower s v upper

unfoldable pub run : List Step → Sci → Sci
run [] s = s
run (e ∷ es) s = run es (step e s)

abbrev pub receiving : Sci → Received
receiving s = record { receiver = s.receiver; status = s.status }

-- The receiver takes a sample at this clock.
abbrev pub sampling : Sci → Bool
sampling s = active s && due s && RE s.sccr1

-- The samples and permitted reads that reach the receiver, in order.
abbrev pub step_ops : Step → Sci → List Op
step_ops reset s = []
step_ops (clock x) s = cond (sampling s) (sample x ∷ []) []
step_ops (reads scsr scdr) s = read scsr scdr ∷ []
step_ops (writesSccr0 v upper lower) s = []
step_ops (writesSccr1 v upper lower) s = []
step_ops (writesScdr v upper lower) s = []

unfoldable pub ops : List Step → Sci → List Op
ops [] s = []
ops (e ∷ es) s = step_ops e s ++ ops es (step e s)

-- After each of them, the receive flags and the fresh word that it delivers.
abbrev pub seen_if : Bool → Seen → List Seen → List Seen
seen_if true e rest = e ∷ rest
seen_if false e rest = rest

abbrev pub step_seen : Step → Sci → Sci → List Seen → List Seen
step_seen reset s after rest = rest
step_seen (clock x) s after rest = seen_if (sampling s) (record { flags = shown after.status; word = none }) rest
step_seen (reads scsr scdr) s after rest =
    record { flags = shown after.status; word = delivers (read scsr scdr) (receiving s) } ∷ rest
step_seen (writesSccr0 v upper lower) s after rest = rest
step_seen (writesSccr1 v upper lower) s after rest = rest
step_seen (writesScdr v upper lower) s after rest = rest

unfoldable pub watched : List Step → Sci → List Seen
watched [] s = []
watched (e ∷ es) s = step_seen e s (step e s) (watched es (step e s))

-- A reset, or a permitted write to SCCR0 or SCCR1.
abbrev pub breaks : Step → Sci → Bool
breaks reset s = true
breaks (clock x) s = false
breaks (reads scsr scdr) s = false
breaks (writesSccr0 v upper lower) s = not (sccr0_guarded s v upper lower)
breaks (writesSccr1 v upper lower) s = not (sccr1_guarded s v upper lower)
breaks (writesScdr v upper lower) s = false

abbrev pub Unbroken : List Step → Sci → Type 0
Unbroken [] s = Unit {0}
Unbroken (e ∷ es) s = (breaks e s ≡ false) × Unbroken es (step e s)
