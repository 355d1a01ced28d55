-- Flags fall by a seen status and a data access, and RAF with RE. Assumes nothing.
use mathlib.Core.Path.{◌≡◌, refl}
use mathlib.Core.Bool.{Bool, false, not, ◌&&◌, ◌||◌}
use Prim.Native.Nat.{ℕ, ◌<◌}
use lib.Dec.{eqb}
use Rattle.steps.specs.Bits.{bit}
use Rattle.steps.specs.Iterate.{iterate}
use Rattle.sci.specs.model.Flags.{receive_flags}
use Rattle.sci.specs.claims.Members.{member}
use Rattle.sci.specs.model.Serial.{sccr1_word}
use Rattle.sci.proofs.Flagged.{is_set, is_marked}
use Rattle.qsm.specs.model.Map.{decode}
use Rattle.qsm.specs.model.Serial.{put_serial}
use Rattle.qsm.specs.model.Word.{put}
use Rattle.qsm.specs.model.Lanes.{touches}
use Rattle.qsm.specs.model.Access.{store, stored}
use Rattle.qsm.specs.model.Decision.{permits, decide_read, stored_by, decide_stored, decide_write}
use Rattle.qsm.specs.model.Event.{after_read, read_value, refused, reads, writes, does, step}
use Rattle.qsm.specs.declared.state.Module.{Module}
use Rattle.qsm.specs.declared.event.Access.{Access}
use Rattle.qsm.specs.declared.event.Access.TheVariants.{Read, Write}
use Rattle.qsm.proofs.StatusBytes.{some_width}
use Rattle.qsm.proofs.Stored.{state_if}
use Rattle.claims_clauses.specs.FlagsFall.{after, set, seen, transmits, permitted, has_byte, looks, handles, stops, FlagsFall, Inert, FlagClauses}
use Rattle.claims_clauses.proofs.Places.{touches_low, touches_status}
use Rattle.claims_clauses.proofs.FlagTold.{Told, unchanged, is_receive, is_transmit_holds, is_raf, set_is, re_is}
use Rattle.claims_clauses.proofs.FlagRead.{read_told, read_set, read_mark}
use Rattle.claims_clauses.proofs.FlagStored.{by_write}

read_by : (k : ℕ) (m : Module) (s : Bool) (w o : ℕ) → k < 9 →
    Told (is_set k m.sci.status) (is_marked k m.sci.status) (is_set k (after m (Read s w o)).sci.status) (is_marked k (after m (Read s w o)).sci.status)
    (looks m (Read s w o)) (handles m (Read s w o) k) (stops m (Read s w o) && eqb k 5)
unfolding step does reads refused after_read
read_by k m s w o small =
    state_if
    (λ n. Told (is_set k m.sci.status) (is_marked k m.sci.status) (is_set k n.sci.status) (is_marked k n.sci.status)
    (looks m (Read s w o)) (handles m (Read s w o) k) false)
    (permits (decide_read m s w o)) m (after_read m w o) 0 (read_value m w o) _
    (λ p.
    rw (p, ← touches_status w o (some_width m s w o p), ← touches_low w o, ← is_receive k small, read_set k m.sci (touches 0x0C 2 w o) (touches 0x0F 1 w o), read_mark k m.sci (touches 0x0C 2 w o) (touches 0x0F 1 w o))
    (read_told (is_set k m.sci.status) (is_marked k m.sci.status) (touches 0x0C 2 w o) (touches 0x0F 1 w o) (member k receive_flags)))
    (λ p. rw p (unchanged (is_set k m.sci.status) (is_marked k m.sci.status)))

write_by : (k : ℕ) (m : Module) (s : Bool) (w o v : ℕ) → k < 9 →
    Told (is_set k m.sci.status) (is_marked k m.sci.status) (is_set k (after m (Write s w o v)).sci.status) (is_marked k (after m (Write s w o v)).sci.status)
    false (handles m (Write s w o v) k)
    ((permitted m (Write s w o v) && (has_byte 0x0A w o || has_byte 0x0B w o) && not (bit 2 (sccr1_word (after m (Write s w o v)).sci))) && eqb k 5)
unfolding step does writes refused decide_write
write_by k m s w o v small =
    state_if
    (λ n. Told (is_set k m.sci.status) (is_marked k m.sci.status) (is_set k n.sci.status) (is_marked k n.sci.status)
    false (permits (decide_stored m (stored_by m w o v) s w o v) && has_byte 0x0F w o && transmits k)
    ((permits (decide_stored m (stored_by m w o v) s w o v) && (has_byte 0x0A w o || has_byte 0x0B w o) && not (bit 2 (sccr1_word n.sci))) && eqb k 5))
    (permits (decide_stored m (stored_by m w o v) s w o v)) m (stored_by m w o v).state 0 0 _
    (λ p. rw (p, ← is_transmit_holds k small, ← is_raf k small) (by_write k m o v s w p))
    (λ p. rw p (unchanged (is_set k m.sci.status) (is_marked k m.sci.status)))

as_law : (m : Module) (a : Access) (k : ℕ) →
    Told (set m k) (seen m k) (set (after m a) k) (seen (after m a) k) (looks m a) (handles m a k) (stops m a && eqb k 5) → FlagsFall m a k
as_law m a k t = record { flag = t.0; mark = t.1; unset = t.2 }

pub seen_is : (m : Module) (k : ℕ) → seen m k ≡ is_marked k m.sci.status
unfolding member
seen_is m k = refl

pub flags_fall : (m : Module) (a : Access) (k : ℕ) → k < 9 → FlagsFall m a k
flags_fall m (Read s w o) k small =
    as_law m (Read s w o) k
    (rw (set_is k small m, set_is k small (after m (Read s w o)), seen_is m k, seen_is (after m (Read s w o)) k) (read_by k m s w o small))
flags_fall m (Write s w o v) k small =
    as_law m (Write s w o v) k
    (rw (set_is k small m, set_is k small (after m (Write s w o v)), seen_is m k, seen_is (after m (Write s w o v)) k, re_is (after m (Write s w o v)))
    (write_by k m s w o v small))

left_alone : (m : Module) (s : Bool) (w o v : ℕ) → (stored_by m w o v).state ≡ m → after m (Write s w o v) ≡ m
unfolding step does writes refused
left_alone m s w o v e =
    state_if (λ k. k ≡ m) (permits (decide_stored m (stored_by m w o v) s w o v)) m (stored_by m w o v).state 0 0 _ (λ h. e) (λ h. refl)

inert : (m : Module) (s : Bool) (v : ℕ) → Inert m s v
unfolding stored_by stored iterate store decode put put_serial
inert m s v =
    record {
      scsr = left_alone m s 2 0x0C v refl;
      scsr_upper = left_alone m s 1 0x0C v refl;
      scsr_lower = left_alone m s 1 0x0D v refl;
      scdr_upper = left_alone m s 1 0x0E v refl;
    }

pub flag_clauses : FlagClauses
flag_clauses = record { fall = flags_fall; inert = inert }
