-- Demands 2 and 3: what reaches a receiver that is on, between resets and writes to SCCR0 and SCCR1; and what demand 3 compares of it.
use Rattle.std.specs.Prelude.{Bool, true, false, not, ◌&&◌, List, [], ◌∷◌, ℕ, suc, ◌%◌}
use Rattle.std.proofs.Math.Option.{Option, none, some}
use Rattle.sci.specs.model.Flags.{RDRF, receive_flags, flag, common}
use Rattle.sci.specs.model.Status.{has, mark_seen, fall_seen}
use Rattle.sci.specs.model.Receiver.{received}
use Rattle.sci.specs.declared.flags.Flags.{Flags}
use Rattle.sci.specs.declared.status.Status.{Status}
use Rattle.sci.specs.declared.receiver.Received.{Received}

-- A sample of RXD's level; or a permitted read of bytes 0C to 0F: whether it touches SCSR, and whether SCDR's low byte.
pub data Op : Type 0 where
  sample : Bool → Op
  read : (scsr scdr : Bool) → Op

abbrev pub looked : Bool → Status → Status
looked true s = mark_seen s
looked false s = s

abbrev pub fetched : Bool → Status → Status
fetched true s = fall_seen s receive_flags
fetched false s = s

-- Status, then data.
abbrev pub read_status : Bool → Bool → Status → Status
read_status scsr scdr s = fetched scdr (looked scsr s)

-- SCCR1 stands still; RWU is the receiver's own.
unfoldable pub act : ℕ → Op → Received → Received
act sccr1 (sample x) p = received p.receiver p.status sccr1 x
act sccr1 (read scsr scdr) p = record { receiver = p.receiver; status = read_status scsr scdr p.status }

unfoldable pub acts : ℕ → List Op → Received → Received
acts sccr1 [] p = p
acts sccr1 (o ∷ os) p = acts sccr1 os (act sccr1 o p)

-- The six receive flags.
abbrev pub shown : Status → Flags
shown s = common s.flags receive_flags

abbrev pub no_flag : Flags
no_flag = flag 0

-- A fresh word is one whose read makes RDRF fall: SCDR's nine bits.
abbrev pub fresh_if : Bool → ℕ → Option ℕ
fresh_if true scdr = some (scdr % 512)
fresh_if false scdr = none

unfoldable pub delivers : Op → Received → Option ℕ
delivers (sample x) p = none
delivers (read scsr scdr) p =
    fresh_if (has p.status RDRF && not (has (read_status scsr scdr p.status) RDRF)) p.receiver.scdr

-- What is compared at each: the receive flags after it, and the fresh word that it delivers.
pub record Seen : Type 0 where
  pub flags : Flags
  pub word : Option ℕ

abbrev pub seen_at : ℕ → Op → Received → Seen
seen_at sccr1 o p = record { flags = shown (act sccr1 o p).status; word = delivers o p }

unfoldable pub watch : ℕ → List Op → Received → List Seen
watch sccr1 [] p = []
watch sccr1 (o ∷ os) p = seen_at sccr1 o p ∷ watch sccr1 os (act sccr1 o p)

-- Every sample is a one; and how many samples there are.
abbrev pub Ones : List Op → Type 0
Ones [] = Unit {0}
Ones (sample true ∷ os) = Ones os
Ones (sample false ∷ os) = ⊥
Ones (read scsr scdr ∷ os) = Ones os

abbrev pub samples_in : List Op → ℕ
samples_in [] = 0
samples_in (sample x ∷ os) = suc (samples_in os)
samples_in (read scsr scdr ∷ os) = samples_in os

-- So many ones make any receiver equal to one first enabled after a reset.
abbrev pub resync_samples : ℕ
resync_samples = 352
