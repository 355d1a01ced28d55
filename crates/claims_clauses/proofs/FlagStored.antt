-- What a write leaves of a flag, whatever its width: one word, or two of which one matters. Assumes nothing.
use mathlib.Core.Path.{◌≡◌, refl, ap}
use mathlib.Core.Bool.{Bool, true, false, not, ◌&&◌, ◌||◌, beq, false≢true}
use Prim.Native.Nat.{ℕ, ◌%◌}
use lib.Dec.{eqb}
use borrow.Author.Tests.{eqb-true}
use Rattle.steps.specs.Iterate.{iterate}
use Rattle.sci.specs.declared.serial.Sci.{Sci}
use Rattle.sci.specs.declared.status.Status.{Status}
use Rattle.sci.proofs.Membership.{and_left, and_right}
use Rattle.sci.proofs.Flagged.{is_set, is_marked}
use Rattle.qsm.specs.model.Map.{decode}
use Rattle.qsm.specs.model.Serial.{put_serial}
use Rattle.qsm.specs.model.Word.{put}
use Rattle.qsm.specs.model.Lanes.{lower_lane, upper_lane, in_map}
use Rattle.qsm.specs.model.Access.{next, store, stored}
use Rattle.qsm.specs.model.Decision.{permits, shaped, fits, barred, gate, tested, admitted, stored_by, decide_stored}
use Rattle.qsm.specs.declared.state.Module.{Module}
use Rattle.qsm.specs.declared.map.Place.{Place}
use Rattle.qsm.specs.declared.map.Place.TheVariants.{Own, Serial, Queue, Hole}
use Rattle.qsm.specs.declared.map.SerialWord.TheVariants.{Sccr0, Sccr1, Scsr, Scdr}
use Rattle.qsm.proofs.Booleans.{one_of}
use Rattle.qsm.proofs.Stored.{own_keeps}
use Rattle.claims_clauses.specs.FlagsFall.{has_byte}
use Rattle.claims_clauses.proofs.Places.{same_bool, is_scdr, is_sccr1, still, control, OneWord, Second, First, byte_place, word_place, long_place}
use Rattle.claims_clauses.proofs.FlagTold.{Told}
use Rattle.claims_clauses.proofs.FlagWritten.{Left, sccr0_same, word_told}

inert_status : (m : Module) (p : Place) (v : ℕ) (u l : Bool) → not (is_scdr p) && not (is_sccr1 p) ≡ true →
    (put m p v u l).sci.status ≡ m.sci.status
unfolding put put_serial
inert_status m (Own w) v u l h = ap (λ (s : Sci). s.status) (own_keeps m w v u l).0
inert_status m (Serial Sccr0) v u l h = sccr0_same 0 m v u l
inert_status m (Serial Sccr1) v u l h = absurd (false≢true h)
inert_status m (Serial Scsr) v u l h = refl
inert_status m (Serial Scdr) v u l h = absurd (false≢true h)
inert_status m (Queue w) v u l h = refl
inert_status m Hole v u l h = refl

still_sci : (m : Module) (p : Place) (v : ℕ) (u l : Bool) → still p ≡ true → (put m p v u l).sci ≡ m.sci
unfolding put put_serial
still_sci m (Own w) v u l h = (own_keeps m w v u l).0
still_sci m (Serial Sccr0) v u l h = absurd (false≢true h)
still_sci m (Serial Sccr1) v u l h = absurd (false≢true h)
still_sci m (Serial Scsr) v u l h = refl
still_sci m (Serial Scdr) v u l h = absurd (false≢true h)
still_sci m (Queue w) v u l h = refl
still_sci m Hole v u l h = refl

gated : (a b c u g : Bool) → permits (tested (gate a b c) (permits (gate a b c)) u g) ≡ true → (a ≡ true) × (b ≡ true)
gated true true c u g h = (refl, refl)
gated true false c u g h = absurd (false≢true h)
gated false b c u g h = absurd (false≢true h)

one_of_words : (k : ℕ) (m : Module) (o w : ℕ) (p : Place) (x : ℕ) (u l : Bool) → OneWord w o p l ≡ true →
    Left k m (put m p x u l) (has_byte 0x0F w o) (control w o)
one_of_words k m o w p x u l h =
    rw (← same_bool (is_scdr p && l) (has_byte 0x0F w o) (and_left _ _ h), ← same_bool (is_sccr1 p) (control w o) (and_right (beq (is_scdr p && l) (has_byte 0x0F w o)) _ h))
    (word_told k m p x u l)

-- Two words, of which the second alone, or the first alone, matters.
from_status : (k : ℕ) (s t : Status) (x y low stop : Bool) → s ≡ t → Told (is_set k s) (is_marked k s) x y false low stop →
    Told (is_set k t) (is_marked k t) x y false low stop
from_status k s t x y low stop e told = rw e at told

second_word : (k : ℕ) (m : Module) (o : ℕ) (p q : Place) (x y : ℕ) → Second o p q ≡ true →
    Left k m (put (put m p x true true) q y true true) (has_byte 0x0F 4 o) (control 4 o)
second_word k m o p q x y h =
    from_status k _ _ _ _ _ _ (inert_status m p x true true (and_left (not (is_scdr p) && not (is_sccr1 p)) _ h))
    (one_of_words k (put m p x true true) o 4 q y true true (and_right (not (is_scdr p) && not (is_sccr1 p)) _ h))

first_word : (k : ℕ) (m : Module) (o : ℕ) (p q : Place) (x y : ℕ) → First o p q ≡ true →
    Left k m (put (put m p x true true) q y true true) (has_byte 0x0F 4 o) (control 4 o)
first_word k m o p q x y h =
    rw (still_sci (put m p x true true) q y true true (and_left (still q) _ h))
    (one_of_words k m o 4 p x true true (and_right (still q) _ h))

module _ (k : ℕ) (m : Module) (o v : ℕ) where
  abbrev By : ℕ → Type 0
  By w = Left k m (stored_by m w o v).state (has_byte 0x0F w o) (control w o)

  by_byte : in_map 1 o ≡ true → By 1
  unfolding stored_by stored iterate store
  by_byte h = one_of_words k m o 1 (decode o) _ (upper_lane 1 o) (lower_lane 1 o) (byte_place o h)

  by_word : eqb (o % 2) 0 ≡ true → in_map 2 o ≡ true → By 2
  unfolding stored_by stored iterate store
  by_word e h = one_of_words k m o 2 (decode o) _ true true (word_place o e h)

  by_long : eqb (o % 2) 0 ≡ true → in_map 4 o ≡ true → By 4
  unfolding stored_by stored iterate store
  by_long e h =
      one_of (Second o (decode o) (decode (next o))) (First o (decode o) (decode (next o))) (long_place o e h)
      (λ g. second_word k m o (decode o) (decode (next o)) _ _ g)
      (λ g. first_word k m o (decode o) (decode (next o)) _ _ g)

  by_width : (w : ℕ) → shaped w o ≡ true → in_map w o ≡ true → By w
  by_width w h =
      one_of (eqb w 1) ((eqb w 2 || eqb w 4) && eqb (o % 2) 0) h
      (λ e. rw (eqb-true w 1 e) by_byte)
      (λ e.
      let even : eqb (o % 2) 0 ≡ true = and_right (eqb w 2 || eqb w 4) (eqb (o % 2) 0) e in
      one_of (eqb w 2) (eqb w 4) (and_left (eqb w 2 || eqb w 4) (eqb (o % 2) 0) e)
      (λ f. rw (eqb-true w 2 f) (by_word even))
      (λ f. rw (eqb-true w 4 f) (by_long even)))

  pub by_write : (s : Bool) (w : ℕ) → permits (decide_stored m (stored_by m w o v) s w o v) ≡ true → By w
  unfolding decide_stored admitted
  by_write s w h =
      let open-gate = gated (shaped w o && fits w v) (in_map w o) (barred m s w o) (stored_by m w o v).unmodelled (stored_by m w o v).guarded h in
      by_width w (and_left (shaped w o) _ open-gate.0) open-gate.1
