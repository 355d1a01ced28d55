-- No write of a word makes a flag seen. Assumes nothing.
use mathlib.Core.Path.{◌≡◌, refl, sym, ap, ◌∙◌}
use mathlib.Core.Bool.{Bool, true, false, not, ◌&&◌}
use Prim.Native.Nat.{ℕ}
use lib.Dec.{eqb}
use Rattle.steps.specs.Bits.{bit, merge}
use Rattle.sci.specs.model.Flags.{RAF}
use Rattle.sci.specs.model.Status.{fall, fall_seen}
use Rattle.sci.specs.model.Control.{RE, sccr0_bits}
use Rattle.sci.specs.model.Serial.{sccr0_set, stopped, with_sccr1, sccr1_word, wrote_sccr0, wrote_sccr1}
use Rattle.sci.specs.declared.serial.Sci.{Sci}
use Rattle.sci.specs.declared.flags.Flags.{Flags}
use Rattle.sci.specs.declared.status.Status.{Status}
use Rattle.sci.proofs.Membership.{and_left, bit_less}
use Rattle.qspi.specs.model.Fields.{spe}
use Rattle.qspi.specs.model.Parts.{with_registers}
use Rattle.qspi.specs.model.Registers.{with_spcr1, switched, write_spcr1}
use Rattle.qspi.specs.model.Spsr.{falls}
use Rattle.qspi.specs.declared.Qspi.{Qspi}
use Rattle.qsm.specs.model.Serial.{put_serial}
use Rattle.qsm.specs.model.Queue.{put_queue}
use Rattle.qsm.specs.model.Word.{put}
use Rattle.qsm.specs.claims.SeenClauses.{spif_seen, modf_seen, halta_seen, in_scsr}
use Rattle.qsm.specs.declared.state.Module.{Module}
use Rattle.qsm.specs.declared.map.Place.{Place}
use Rattle.qsm.specs.declared.map.Place.TheVariants.{Own, Serial, Queue, Hole}
use Rattle.qsm.specs.declared.map.SerialWord.{SerialWord}
use Rattle.qsm.specs.declared.map.SerialWord.TheVariants.{Sccr0, Sccr1, Scsr, Scdr}
use Rattle.qsm.specs.declared.map.QueueWord.{QueueWord}
use Rattle.qsm.specs.declared.map.QueueWord.TheVariants.{Spcr0, Spcr1, Spcr2, Spcr3Spsr, Receive, Transmit, Command}
use Rattle.qsm.proofs.Stored.{own_keeps}

-- ---- SCSR

-- A flag that falls is seen no more, and no other becomes so.
pub fall_seen_holds : (k : ℕ) (s : Status) (f : Flags) →
    bit k (fall s f).seen.bits ≡ bit k s.seen.bits && not (bit k f.bits)
unfolding fall
fall_seen_holds k s f = bit_less k s.seen.bits f.bits

pub less_seen : (k : ℕ) (s : Status) (f : Flags) → bit k (fall s f).seen.bits ≡ true → bit k s.seen.bits ≡ true
less_seen k s f h = and_left (bit k s.seen.bits) (not (bit k f.bits)) (sym (fall_seen_holds k s f) ∙ h)

abbrev pub scsr_seen : ℕ → Sci → Bool
scsr_seen k s = bit k s.status.seen.bits

sccr0_seen : (k : ℕ) (same : Bool) (s : Sci) (v : ℕ) → scsr_seen k (sccr0_set same s v) ≡ scsr_seen k s
sccr0_seen k true s v = refl
sccr0_seen k false s v = refl

stopped_seen : (k : ℕ) (on : Bool) (s : Sci) → scsr_seen k (stopped on s) ≡ true → scsr_seen k s ≡ true
stopped_seen k true s h = h
stopped_seen k false s h = less_seen k s.status RAF h

serial_seen : (k : ℕ) (s : Sci) (w : SerialWord) (v : ℕ) (upper lower : Bool) →
    scsr_seen k (put_serial s w v upper lower) ≡ true → scsr_seen k s ≡ true
unfolding put_serial wrote_sccr0 wrote_sccr1 fall_seen
serial_seen k s Sccr0 v upper lower h =
    sym (sccr0_seen k (eqb (sccr0_bits (merge s.sccr0 v upper lower)) s.sccr0) s (sccr0_bits (merge s.sccr0 v upper lower))) ∙ h
serial_seen k s Sccr1 v upper lower h =
    stopped_seen k (RE (merge (sccr1_word s) v upper lower)) (with_sccr1 s (merge (sccr1_word s) v upper lower)) h
serial_seen k s Scsr v upper lower h = h
serial_seen k s Scdr v upper true h = less_seen k s.status _ h
serial_seen k s Scdr v upper false h = h

-- ---- SPSR

-- No flag more is seen.
abbrev pub NoMore : Qspi → Qspi → Type 0
NoMore q r =
    (spif_seen r ≡ true → spif_seen q ≡ true) × (modf_seen r ≡ true → modf_seen q ≡ true)
    × (halta_seen r ≡ true → halta_seen q ≡ true)

none_more : (q : Qspi) → NoMore q q
none_more q = ((λ h. h), (λ h. h), (λ h. h))

switched_seen : (a b : Bool) (q : Qspi) → NoMore q (switched a b q)
switched_seen false false q = none_more q
switched_seen false true q = none_more q
switched_seen true false q = none_more q
switched_seen true true q = none_more q

queue_seen : (q : Qspi) (w : QueueWord) (v : ℕ) (upper lower : Bool) → NoMore q (put_queue q w v upper lower)
unfolding put_queue write_spcr1
queue_seen q Spcr0 v upper lower = none_more q
queue_seen q Spcr1 v upper lower =
    switched_seen (spe q.registers.spcr1) (spe (merge q.registers.spcr1 v upper lower))
    (with_registers q (with_spcr1 q.registers (merge q.registers.spcr1 v upper lower)))
queue_seen q Spcr2 v upper lower = none_more q
queue_seen q Spcr3Spsr v upper lower = (
  and_left (spif_seen q) (not (falls lower (spif_seen q) (bit 7 v))),
  and_left (modf_seen q) (not (falls lower (modf_seen q) (bit 6 v))),
  and_left (halta_seen q) (not (falls lower (halta_seen q) (bit 5 v))),
)
queue_seen q (Receive i) v upper lower = none_more q
queue_seen q (Transmit i) v upper lower = none_more q
queue_seen q (Command i) v upper lower = none_more q

-- ---- a word of the module

pub put_scsr : (k : ℕ) (m : Module) (p : Place) (v : ℕ) (upper lower : Bool) →
    in_scsr (put m p v upper lower) k ≡ true → in_scsr m k ≡ true
unfolding put
put_scsr k m (Own w) v upper lower h = sym (ap (scsr_seen k) (own_keeps m w v upper lower).0) ∙ h
put_scsr k m (Serial w) v upper lower h = serial_seen k m.sci w v upper lower h
put_scsr k m (Queue w) v upper lower h = h
put_scsr k m Hole v upper lower h = h

pub put_spsr : (m : Module) (p : Place) (v : ℕ) (upper lower : Bool) → NoMore m.qspi (put m p v upper lower).qspi
unfolding put
put_spsr m (Own w) v upper lower = rw (own_keeps m w v upper lower).1 (none_more m.qspi)
put_spsr m (Serial w) v upper lower = none_more m.qspi
put_spsr m (Queue w) v upper lower = queue_seen m.qspi w v upper lower
put_spsr m Hole v upper lower = none_more m.qspi
