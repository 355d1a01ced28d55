-- What a word written leaves of a flag: SCDR's low byte and SCCR1 alone matter. Assumes nothing.
use mathlib.Core.Path.{◌≡◌, refl, sym, ap, ◌∙◌}
use mathlib.Core.Bool.{Bool, true, false, cond, not, ◌&&◌, false≢true}
use Prim.Native.Nat.{ℕ, ◌+◌, ◌*◌, ◌/◌, ◌%◌, ◌^◌, ◌<◌}
use native.Mathlib.Omega.{arith}
use lib.Dec.{eqb}
use Rattle.steps.specs.Bits.{bit, merge}
use Rattle.sci.specs.model.Flags.{RAF, transmit_flags}
use Rattle.sci.specs.claims.Members.{member}
use Rattle.sci.specs.model.Control as control
use Rattle.sci.specs.model.Control.{sccr0_bits, sccr1_bits}
use Rattle.sci.specs.model.Serial.{sccr1_word, sccr0_set, stopped, with_sccr1, wrote_sccr0, wrote_sccr1}
use Rattle.sci.specs.declared.serial.Sci.{Sci}
use Rattle.sci.proofs.Flagged.{is_set, is_marked, set_fall, marked_fall, set_fallSeen, marked_fallSeen}
use Rattle.qsm.specs.model.Serial.{put_serial}
use Rattle.qsm.specs.model.Word.{put}
use Rattle.qsm.specs.declared.state.Module.{Module}
use Rattle.qsm.specs.declared.map.Place.{Place}
use Rattle.qsm.specs.declared.map.Place.TheVariants.{Own, Serial, Queue, Hole}
use Rattle.qsm.specs.declared.map.SerialWord.TheVariants.{Sccr0, Sccr1, Scsr, Scdr}
use Rattle.qsm.proofs.Booleans.{and_true, same_digit}
use Rattle.qsm.proofs.Stored.{own_keeps}
use Rattle.claims_clauses.proofs.Places.{is_scdr, is_sccr1, control}
use Rattle.claims_clauses.proofs.FlagTold.{Told, unchanged}

write_told : (x y a b : Bool) →
    Told x y (x && not (x && y && a) && not b) (y && not (x && y && a) && not b) false a b
write_told true true true b = (refl, λ h. refl, λ h g. refl)
write_told true true false b = (refl, λ h. refl, λ h g. refl)
write_told true false a b = (refl, λ h. refl, λ h g. g)
write_told false true a b = (refl, λ h. absurd (false≢true h), λ h g. refl)
write_told false false a b = (refl, λ h. absurd (false≢true h), λ h g. g)

-- RE as it is read after a write of SCCR1.
twice_bits : (c : ℕ) → sccr1_bits (sccr1_bits c) ≡ sccr1_bits c
twice_bits c = omega arith

pub quarter : (q r : ℕ) → r < 4 → (q * 4 + r) / 4 ≡ q
quarter q r h = omega arith

re_digit : (asleep : Bool) (c : ℕ) →
    bit 2 (cond asleep (sccr1_bits (sccr1_bits c) + 2) (sccr1_bits (sccr1_bits c))) ≡ bit 2 c
re_digit true c =
    let d : c % 2 ^ 13 / 4 % 2 ≡ c / 4 % 2 = omega arith in
    rw (twice_bits c, quarter (c % 2 ^ 13 / 4) 2 (omega arith)) (same_digit _ _ d)
re_digit false c =
    let d : c % 2 ^ 13 / 4 % 2 ≡ c / 4 % 2 = omega arith in
    let e : c % 2 ^ 13 / 4 * 4 / 4 ≡ c % 2 ^ 13 / 4 = omega arith in
    rw (twice_bits c, e) (same_digit _ _ d)

stopped_word : (b : Bool) (s : Sci) → sccr1_word (stopped b s) ≡ sccr1_word s
stopped_word true s = refl
stopped_word false s = refl

re_written : (s : Sci) (v : ℕ) (u l : Bool) →
    bit 2 (sccr1_word (wrote_sccr1 s v u l)) ≡ control.RE (merge (sccr1_word s) v u l)
unfolding wrote_sccr1
re_written s v u l =
    ap (bit 2) (stopped_word (control.RE (merge (sccr1_word s) v u l)) (with_sccr1 s (merge (sccr1_word s) v u l)))
    ∙ re_digit (control.RWU (merge (sccr1_word s) v u l)) (merge (sccr1_word s) v u l)

stopped_set : (k : ℕ) (b : Bool) (s : Sci) → is_set k (stopped b s).status ≡ is_set k s.status && not (not b && member k RAF)
stopped_set k true s = sym (and_true (is_set k s.status))
stopped_set k false s = set_fall k s.status RAF

stopped_mark : (k : ℕ) (b : Bool) (s : Sci) → is_marked k (stopped b s).status ≡ is_marked k s.status && not (not b && member k RAF)
stopped_mark k true s = sym (and_true (is_marked k s.status))
stopped_mark k false s = marked_fall k s.status RAF

sccr0_status : (same : Bool) (s : Sci) (v : ℕ) → (sccr0_set same s v).status ≡ s.status
sccr0_status true s v = refl
sccr0_status false s v = refl

-- What a word written leaves of a flag: SCDR's low byte and SCCR1 alone matter.
module _ (k : ℕ) (m : Module) where
  abbrev pub Left : Module → Bool → Bool → Type 0
  Left n low control =
      Told (is_set k m.sci.status) (is_marked k m.sci.status) (is_set k n.sci.status) (is_marked k n.sci.status)
      false (low && member k transmit_flags) ((control && not (bit 2 (sccr1_word n.sci))) && member k RAF)

  same_status : (n : Module) → n.sci.status ≡ m.sci.status → Left n false false
  same_status n e = rw e (unchanged (is_set k m.sci.status) (is_marked k m.sci.status))

  scdr_told : (v : ℕ) (u l : Bool) → Left (put m (Serial Scdr) v u l) l false
  unfolding put put_serial
  scdr_told v u true =
      let told = write_told (is_set k m.sci.status) (is_marked k m.sci.status) (member k transmit_flags) false in
      rw (set_fallSeen k m.sci.status transmit_flags, marked_fallSeen k m.sci.status transmit_flags)
      (simp and_true at told)
  scdr_told v u false = unchanged (is_set k m.sci.status) (is_marked k m.sci.status)

  sccr1_left : (x y b x' y' : Bool) → x' ≡ x && not b → y' ≡ y && not b → Told x y x' y' false false b
  sccr1_left true true b x' y' e f = (e, λ h. f, λ h g. refl)
  sccr1_left true false b x' y' e f = (e, λ h. f, λ h g. sym f ∙ g)
  sccr1_left false true b x' y' e f = (e, λ h. absurd (false≢true h), λ h g. refl)
  sccr1_left false false b x' y' e f = (e, λ h. absurd (false≢true h), λ h g. sym f ∙ g)

  module _ (v : ℕ) (u l : Bool) where
    abbrev new : ℕ
    new = merge (sccr1_word m.sci) v u l

    sccr1_set : is_set k (wrote_sccr1 m.sci v u l).status
        ≡ is_set k m.sci.status && not (not (control.RE new) && member k RAF)
    unfolding wrote_sccr1
    sccr1_set = stopped_set k (control.RE new) (with_sccr1 m.sci new)

    sccr1_mark : is_marked k (wrote_sccr1 m.sci v u l).status
        ≡ is_marked k m.sci.status && not (not (control.RE new) && member k RAF)
    unfolding wrote_sccr1
    sccr1_mark = stopped_mark k (control.RE new) (with_sccr1 m.sci new)

    sccr1_told : Left (put m (Serial Sccr1) v u l) false true
    unfolding put put_serial
    sccr1_told =
        rw (re_written m.sci v u l, sccr1_set, sccr1_mark)
        (sccr1_left (is_set k m.sci.status) (is_marked k m.sci.status) (not (control.RE new) && member k RAF) _ _ refl refl)

  pub sccr0_same : (v : ℕ) (u l : Bool) → (wrote_sccr0 m.sci v u l).status ≡ m.sci.status
  unfolding wrote_sccr0
  sccr0_same v u l =
      sccr0_status (eqb (sccr0_bits (merge m.sci.sccr0 v u l)) m.sci.sccr0) m.sci (sccr0_bits (merge m.sci.sccr0 v u l))

  pub word_told : (p : Place) (v : ℕ) (u l : Bool) → Left (put m p v u l) (is_scdr p && l) (is_sccr1 p)
  unfolding put put_serial
  word_told (Own w) v u l = same_status (put m (Own w) v u l) (ap (λ (s : Sci). s.status) (own_keeps m w v u l).0)
  word_told (Serial Sccr0) v u l = same_status (put m (Serial Sccr0) v u l) (sccr0_same v u l)
  word_told (Serial Sccr1) v u l = sccr1_told v u l
  word_told (Serial Scsr) v u l = same_status (put m (Serial Scsr) v u l) refl
  word_told (Serial Scdr) v u l = scdr_told v u l
  word_told (Queue w) v u l = same_status (put m (Queue w) v u l) refl
  word_told Hole v u l = same_status m refl
