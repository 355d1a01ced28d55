-- The laws of what is seen: what a read makes seen, and that no other access does. Assumes nothing.
use mathlib.Core.Path.{◌≡◌, refl, sym, ◌∙◌}
use mathlib.Core.Bool.{Bool, true, false, not, ◌&&◌, ◌||◌}
use Prim.Native.Nat.{ℕ, ◌+◌, ◌<◌}
use Rattle.steps.specs.Bits.{bit}
use Rattle.sci.specs.model.Status.{fall, mark_seen, fall_seen}
use Rattle.sci.specs.declared.serial.Sci.{Sci}
use Rattle.sci.specs.declared.flags.Flags.{Flags}
use Rattle.sci.specs.declared.status.Status.{Status}
use Rattle.sci.proofs.Membership.{and_left, and_right, bit_of_or, bit_less}
use Rattle.qspi.specs.model.Registers.{status_read}
use Rattle.qspi.specs.declared.Qspi.{Qspi}
use Rattle.qsm.specs.model.Lanes.{touches}
use Rattle.qsm.specs.model.Serial.{serial_read}
use Rattle.qsm.specs.model.Queue.{queue_read}
use Rattle.qsm.specs.model.Word.{put}
use Rattle.qsm.specs.model.Decision.{permits, decide_read, stored_by, decide_stored}
use Rattle.qsm.specs.model.Event.{after_read, read_value, refused, reads, writes, does, step}
use Rattle.qsm.specs.claims.StatusFlags.{Half, SCI, QSPI, Flag, TDRE, TC, RDRF, RAF, IDLE, OR, NF, FE, PF, SPIF, MODF, HALTA, half, read_at, is_set}
use Rattle.qsm.specs.claims.SeenClauses.{spif_seen, modf_seen, halta_seen, in_scsr, is_seen, status_byte, Looks, SeenClauses}
use Rattle.qsm.specs.declared.state.Module.{Module}
use Rattle.qsm.specs.declared.map.Place.{Place}
use Rattle.qsm.specs.declared.event.Access.{Access}
use Rattle.qsm.specs.declared.event.Access.TheVariants.{Read, Write}
use Rattle.qsm.proofs.Booleans.{both, right_or, clash}
use Rattle.qsm.proofs.StatusFlags.{scsr_bit, spif_read, modf_read, halta_read}
use Rattle.qsm.proofs.StatusBytes.{touched, touched_at, byte_at, some_width}
use Rattle.qsm.proofs.Stored.{state_if, write_keeps}
use Rattle.qsm.proofs.SeenByWrites.{scsr_seen, less_seen, fall_seen_holds, put_scsr, put_spsr}

record Looking (h : Half) (seen set : Module → Bool) : Type 0 where
  written : (m : Module) (p : Place) (v : ℕ) (upper lower : Bool) → seen (put m p v upper lower) ≡ true → seen m ≡ true
  looked : (m : Module) (w o : ℕ) → touched h w o ≡ true → set (after_read m w o) ≡ true → seen (after_read m w o) ≡ true
  only :
      (m : Module) (w o : ℕ) → seen m ≡ false → seen (after_read m w o) ≡ true →
      (touched h w o ≡ true) × (set m ≡ true)

or_second : (a b : Bool) → a ≡ false → a || b ≡ true → b ≡ true
or_second true b g h = clash true g refl
or_second false b g h = h

seen_bit : (k : ℕ) (s : Status) → bit k (mark_seen s).seen.bits ≡ bit k s.seen.bits || bit k s.flags.bits
unfolding mark_seen
seen_bit k s = bit_of_or k s.seen.bits s.flags.bits

fall_flags : (k : ℕ) (s : Status) (f : Flags) →
    bit k (fall s f).flags.bits ≡ bit k s.flags.bits && not (bit k f.bits)
unfolding fall
fall_flags k s f = bit_less k s.flags.bits f.bits

-- What of a set of flags is left is seen, if each was.
left_seen_holds : (k : ℕ) (s : Status) (f : Flags) → (bit k s.flags.bits ≡ true → bit k s.seen.bits ≡ true) →
    bit k (fall s f).flags.bits ≡ true → bit k (fall s f).seen.bits ≡ true
left_seen_holds k s f all h =
    let were : bit k s.flags.bits && not (bit k f.bits) ≡ true = sym (fall_flags k s f) ∙ h in
    fall_seen_holds k s f
    ∙ both (bit k s.seen.bits) (not (bit k f.bits)) (all (and_left _ _ were)) (and_right (bit k s.flags.bits) _ were)

all_seen : (k : ℕ) (s : Status) → bit k (mark_seen s).flags.bits ≡ true → bit k (mark_seen s).seen.bits ≡ true
unfolding mark_seen
all_seen k s h = bit_of_or k s.seen.bits s.flags.bits ∙ right_or (bit k s.seen.bits) (bit k s.flags.bits) h

scsr_looked : (k : ℕ) (low : Bool) (s : Sci) → bit k (serial_read true low s).status.flags.bits ≡ true →
    scsr_seen k (serial_read true low s) ≡ true
unfolding serial_read fall_seen
scsr_looked k false s h = all_seen k s.status h
scsr_looked k true s h = left_seen_holds k (mark_seen s.status) _ (all_seen k s.status) h

scsr_only : (k : ℕ) (t low : Bool) (s : Sci) → scsr_seen k s ≡ false → scsr_seen k (serial_read t low s) ≡ true →
    (t ≡ true) × (bit k s.status.flags.bits ≡ true)
unfolding serial_read fall_seen
scsr_only k true true s g h =
    (refl, or_second (scsr_seen k s) _ g (sym (seen_bit k s.status) ∙ less_seen k (mark_seen s.status) _ h))
scsr_only k true false s g h = (refl, or_second (scsr_seen k s) _ g (sym (seen_bit k s.status) ∙ h))
scsr_only k false true s g h = clash (scsr_seen k s) g (less_seen k s.status _ h)
scsr_only k false false s g h = clash (scsr_seen k s) g h

scsr : (k : ℕ) → bit k 511 ≡ true → Looking SCI (λ m. in_scsr m k) (λ m. bit k (read_at m 2 0x0C))
unfolding after_read
scsr k small =
    record {
      written = put_scsr k;
      looked =
          λ m w o t h. rw t
          (scsr_looked k (touches 0x0F 1 w o) m.sci (rw t at (sym (scsr_bit k (after_read m w o) small) ∙ h)));
      only =
          λ m w o g h. let found : (touches 0x0C 2 w o ≡ true) × (bit k m.sci.status.flags.bits ≡ true) =
          scsr_only k (touches 0x0C 2 w o) (touches 0x0F 1 w o) m.sci g h in (found.0, scsr_bit k m small ∙ found.1);
    }

-- A flag of SPSR, g, and whether it is seen, s: a read that touches 1F adds the one to the other.
module _ (s g : Qspi → Bool) (adds : (q : Qspi) → s (status_read q) ≡ s q || g q)
    (keeps : (q : Qspi) → g (status_read q) ≡ g q) where
  spsr_looked : (q : Qspi) → g (queue_read true q) ≡ true → s (queue_read true q) ≡ true
  unfolding queue_read
  spsr_looked q h = adds q ∙ right_or (s q) (g q) (sym (keeps q) ∙ h)

  spsr_only : (t : Bool) (q : Qspi) → s q ≡ false → s (queue_read t q) ≡ true → (t ≡ true) × (g q ≡ true)
  unfolding queue_read
  spsr_only true q off h = (refl, or_second (s q) (g q) off (sym (adds q) ∙ h))
  spsr_only false q off h = clash (s q) off h

  spsr : (set : Module → Bool) → ((m : Module) → set m ≡ g m.qspi) →
      ((m : Module) (p : Place) (v : ℕ) (upper lower : Bool) → s (put m p v upper lower).qspi ≡ true →
      s m.qspi ≡ true) → Looking QSPI (λ m. s m.qspi) set
  unfolding after_read
  spsr set is written =
      record {
        written = written;
        looked = λ m w o t h. rw t (spsr_looked m.qspi (rw t at (sym (is (after_read m w o)) ∙ h)));
        only =
            λ m w o off h. let found : (touches 0x1F 1 w o ≡ true) × (g m.qspi ≡ true) =
            spsr_only (touches 0x1F 1 w o) m.qspi off h in (found.0, is m ∙ found.1);
      }

looking : (f : Flag) → Looking (half f) (λ m. is_seen m f) (λ m. is_set m f)
looking TDRE = scsr 8 refl
looking TC = scsr 7 refl
looking RDRF = scsr 6 refl
looking RAF = scsr 5 refl
looking IDLE = scsr 4 refl
looking OR = scsr 3 refl
looking NF = scsr 2 refl
looking FE = scsr 1 refl
looking PF = scsr 0 refl
looking SPIF =
    spsr spif_seen (λ q. q.spsr.flags.spif) (λ q. refl) (λ q. refl) (λ m. is_set m SPIF) spif_read
    (λ m p v upper lower. (put_spsr m p v upper lower).0)
looking MODF =
    spsr modf_seen (λ q. q.spsr.flags.modf) (λ q. refl) (λ q. refl) (λ m. is_set m MODF) modf_read
    (λ m p v upper lower. (put_spsr m p v upper lower).1)
looking HALTA =
    spsr halta_seen (λ q. q.spsr.flags.halta) (λ q. refl) (λ q. refl) (λ m. is_set m HALTA) halta_read
    (λ m p v upper lower. (put_spsr m p v upper lower).2)

-- ---- the laws

pub seen : (m : Module) (a : Access) (f : Flag) → SeenClauses m a f
unfolding step does reads writes refused
seen m (Read s w o) f =
    record {
      seen =
          λ looks. state_if (λ n. is_set n f ≡ true → is_seen n f ≡ true) (permits (decide_read m s w o)) m (after_read m w o) 0
          (read_value m w o) _
          (λ p. (looking f).looked m w o (touched_at (half f) w o looks.byte looks.within looks.here))
          (λ p. clash (permits (decide_read m s w o)) p looks.permitted);
      alone =
          λ off. state_if (λ n. is_seen n f ≡ true → Looks m (Read s w o) (half f) × (is_set m f ≡ true))
          (permits (decide_read m s w o)) m (after_read m w o) 0 (read_value m w o) _
          (λ p h.
          let found : (touched (half f) w o ≡ true) × (is_set m f ≡ true) = (looking f).only m w o off h in
          let b : (b : ℕ) × (b < w) × (status_byte (half f) (o + b) ≡ true) =
          byte_at (half f) w o (some_width m s w o p) found.0 in (
            record { permitted = p; byte = b.0; within = b.1; here = b.2 },
            found.1,
          )) (λ p h. clash (is_seen m f) off h);
    }
seen m (Write s w o v) f =
    record {
      seen = λ looks. absurd looks;
      alone =
          λ off h. clash (is_seen m f) off
          (state_if (λ n. is_seen n f ≡ true → is_seen m f ≡ true) (permits (decide_stored m (stored_by m w o v) s w o v)) m
          (stored_by m w o v).state 0 0 _
          (λ p.
          write_keeps (λ n. is_seen n f ≡ true → is_seen m f ≡ true)
          (λ n place v upper lower keeps h. keeps ((looking f).written n place v upper lower h)) m w o v (λ h. h)) (λ p h. h) h);
    }
