-- One sample or write for each thing that the clauses speak of: what they ask for can be met.
use Rattle.std.specs.Prelude.{Bool, true, false, not, ◌&&◌, List, [], ◌∷◌, ℕ, ◌^◌, eqb}
use Rattle.sci.specs.model.Flags.{RAF, RDRF, TC, TDRE, flag}
use Rattle.sci.specs.model.Status.{has}
use Rattle.sci.specs.model.Framer.{searching}
use Rattle.sci.specs.model.Receiver.{received}
use Rattle.sci.specs.model.Transmitter.{sent}
use Rattle.sci.specs.model.Serial.{reset_sci, wrote_sccr0, wrote_sccr1}
use Rattle.sci.specs.claims.ReceiverClauses.{start_begins, start_abandoned, frame_ends, idle_reached}
use Rattle.sci.specs.claims.TransmitterClauses.{frame_starts, preamble_starts}
use Rattle.sci.specs.quick.Quiet.{with_count}
use Rattle.sci.specs.declared.status.Status.{Status}
use Rattle.sci.specs.declared.framer.Framer.{Framer}
use Rattle.sci.specs.declared.receiver.Receiver.{Receiver}
use Rattle.sci.specs.declared.receiver.Received.{Received}
use Rattle.sci.specs.declared.transmitter.Transmitter.{Transmitter}

abbrev clear : Status
clear = record { flags = flag 0; seen = flag 0 }

-- A receiver after three ones, and one sample of it under SCCR1 as given.
abbrev receiver : Framer → ℕ → Bool → Receiver
receiver f idle asleep =
    record { framer = f; last1 = true; last2 = true; last3 = true; idle = idle; since = true; asleep = asleep; scdr = 0; noise = 0 }

abbrev heard : Receiver → ℕ → Bool → Received
heard r sccr1 x = received r clear sccr1 x

-- RT6 of a start bit with ones at RT3 and RT5; RT9 of the stop bit of a frame with the word 80 (hexadecimal).
abbrev starting : Framer
starting = record { framing = true; starting = true; left = 8; rt = 6; first = true; second = true; noise = 0; moved = false; shift = 0 }

abbrev stopping : Framer
stopping = record { framing = true; starting = false; left = 0; rt = 9; first = true; second = true; noise = 0; moved = false; shift = 128 }

-- RT9 of the last data bit, with a one at RT8 and RT9.
abbrev deciding : Framer
deciding = record { framing = true; starting = false; left = 1; rt = 9; first = true; second = true; noise = 0; moved = false; shift = 0 }

abbrev begins : Bool
begins =
    let r : Receiver = receiver searching 3 false in
    let h : Received = heard r 0 false in
    start_begins r h.receiver && has h.status RAF

abbrev abandons : Bool
abandons =
    let r : Receiver = receiver starting 0 false in
    start_abandoned r (heard r 0 true).receiver

abbrev reads : Bool
reads = eqb (heard (receiver deciding 0 false) 0 false).receiver.framer.shift 128

-- With ILT=1.
abbrev ends : Bool
ends =
    let r : Receiver = receiver stopping 5 false in
    let q : Receiver = (heard r (2 ^ 12) true).receiver in
    frame_ends r q && eqb q.idle 0

-- Asleep: the 160th one wakes it with WAKE=0, the frame with WAKE=1.
abbrev wakes_idle : Bool
wakes_idle =
    let r : Receiver = receiver searching 159 true in
    let q : Receiver = (heard r 0 true).receiver in
    idle_reached 8 r q && not q.asleep

abbrev wakes_frame : Bool
wakes_frame =
    let h : Received = heard (receiver stopping 5 true) (2 ^ 8) true in
    not h.receiver.asleep && has h.status RDRF

-- TE set, the shifter free, with a preamble queued or not; and the last sample of what runs, with TDRE set.
abbrev transmitter : Bool → ℕ → Transmitter
transmitter queued left = record { scdr = 0; preamble = queued; shift = 1; left = left }

abbrev starts_frame : Bool
starts_frame = frame_starts (transmitter false 0) (sent (transmitter false 0) clear 8).transmitter

abbrev starts_preamble : Bool
starts_preamble = preamble_starts (transmitter true 0) (sent (transmitter true 0) clear 8).transmitter

abbrev ends_sending : Bool
ends_sending = has (sent (transmitter false 1) (record { flags = TDRE; seen = flag 0 }) 8).status TC

-- SCCR0 changed, at a count of 3; RE set and then cleared.
abbrev restarts : Bool
restarts = eqb (wrote_sccr0 (with_count reset_sci 3) 5 true true).prescaler 0

abbrev stops : Bool
stops = not (has (wrote_sccr1 (wrote_sccr1 reset_sci 4 true true) 0 true true).status RAF)

abbrev pub instances : List Bool
instances =
    begins ∷ abandons ∷ reads ∷ ends ∷ wakes_idle ∷ wakes_frame ∷ starts_frame ∷ starts_preamble ∷ ends_sending ∷ restarts ∷ stops ∷ []
