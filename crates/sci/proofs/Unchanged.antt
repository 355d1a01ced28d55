-- Two serial halves of which neither is reconfigured: what the steps on the wire leave as it was.
-- Assumes nothing.
use Prim.Native.Nat.{ℕ}
use mathlib.Core.Path.{◌≡◌, refl, ◌∙◌}
use mathlib.Core.List.{List, [], ◌∷◌}
use Rattle.sci.specs.model.Control.{RE}
use Rattle.sci.specs.model.Serial.{txd}
use Rattle.sci.specs.claims.Wire.{Wired, read_status, read_data, write_data, write_control, Unchanged, Step, clock, at_sender, at_receiver, step, steps, reads_of, Rests}
use Rattle.sci.specs.declared.serial.Sci.{Sci}
use Rattle.sci.proofs.Stages.{Stage, stages}
use Rattle.sci.proofs.Heeding.{heeded}
use Rattle.sci.proofs.Waiting.{WaitingAt, waiting_access, waiting_clock}
use Rattle.sci.proofs.Registers.{Registers, clock_registers, clock_on, access_registers}

-- While TXD rests at one the receiver goes on waiting.
pub goes_on : (c : ℕ) (s₀ : Sci) (es : List Step) (st : Stage) (q : Wired) → Unchanged es q → Rests es q → WaitingAt c s₀ st q.receiver →
    WaitingAt c s₀ (stages (reads_of es) st) (steps es q).receiver
unfolding Unchanged Rests steps step reads_of stages
goes_on c s₀ [] st q un r h = h
goes_on c s₀ (clock x ∷ es) st q un r h =
    goes_on c s₀ es st (step (clock x) q) un r.1 (waiting_clock c s₀ st q.receiver (txd q.sender) r.0 h)
goes_on c s₀ (at_sender a ∷ es) st q un r h = goes_on c s₀ es st (step (at_sender a) q) un.1 r h
goes_on c s₀ (at_receiver read_status ∷ es) st q un r h =
    goes_on c s₀ es (heeded read_status st) (step (at_receiver read_status) q) un.1 r
    (waiting_access c s₀ st q.receiver read_status un.0 h)
goes_on c s₀ (at_receiver read_data ∷ es) st q un r h =
    goes_on c s₀ es (heeded read_data st) (step (at_receiver read_data) q) un.1 r
    (waiting_access c s₀ st q.receiver read_data un.0 h)
goes_on c s₀ (at_receiver (write_data v upper) ∷ es) st q un r h =
    goes_on c s₀ es st (step (at_receiver (write_data v upper)) q) un.1 r
    (waiting_access c s₀ st q.receiver (write_data v upper) un.0 h)
goes_on c s₀ (at_receiver (write_control v upper lower) ∷ es) st q un r h =
    goes_on c s₀ es st (step (at_receiver (write_control v upper lower)) q) un.1 r
    (waiting_access c s₀ st q.receiver (write_control v upper lower) un.0 h)

pub joined : {s r t : Sci} → Registers s r → Registers r t → Registers s t
joined a b = record { sccr0 = b.sccr0 ∙ a.sccr0; control = b.control ∙ a.control }

pub keeps : (es : List Step) (q : Wired) → Unchanged es q → Registers q.sender (steps es q).sender
unfolding Unchanged steps step
keeps [] q un = record { sccr0 = refl; control = refl }
keeps (clock x ∷ es) q un = joined (clock_registers q.sender x) (keeps es (step (clock x) q) un)
keeps (at_sender e ∷ es) q un = joined (access_registers q.sender e un.0) (keeps es (step (at_sender e) q) un.1)
keeps (at_receiver e ∷ es) q un = keeps es (step (at_receiver e) q) un.1

pub keeps_receiver : (es : List Step) (q : Wired) → Unchanged es q → Registers q.receiver (steps es q).receiver
unfolding Unchanged steps step
keeps_receiver [] q un = record { sccr0 = refl; control = refl }
keeps_receiver (clock x ∷ es) q un =
    joined (clock_registers q.receiver (txd q.sender)) (keeps_receiver es (step (clock x) q) un)
keeps_receiver (at_sender e ∷ es) q un = keeps_receiver es (step (at_sender e) q) un.1
keeps_receiver (at_receiver e ∷ es) q un =
    joined (access_registers q.receiver e un.0.set) (keeps_receiver es (step (at_receiver e) q) un.1)

pub keeps_on : (es : List Step) (q : Wired) → Unchanged es q → RE (steps es q).receiver.sccr1 ≡ RE q.receiver.sccr1
unfolding Unchanged steps step
keeps_on [] q un = refl
keeps_on (clock x ∷ es) q un = keeps_on es (step (clock x) q) un ∙ clock_on q.receiver (txd q.sender)
keeps_on (at_sender e ∷ es) q un = keeps_on es (step (at_sender e) q) un.1
keeps_on (at_receiver e ∷ es) q un = keeps_on es (step (at_receiver e) q) un.1 ∙ un.0.on
