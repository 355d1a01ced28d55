-- A user's access beside a supervisor's. Assumes nothing.
use mathlib.Core.Path.{◌≡◌, refl, sym, ap, ◌∙◌}
use mathlib.Core.Bool.{Bool, true, false, cond, ◌&&◌, ◌||◌, true≢false}
use Prim.Native.Nat.{ℕ, ◌+◌, ◌/◌}
use native.Mathlib.Omega.{arith}
use lib.Dec.{eqb, leb}
use borrow.Author.Tests.{eqb-true, eqb-false, ne_eqb, le-leb}
use Rattle.steps.specs.Bits.{bit}
use Rattle.qsm.specs.model.Map.{decode, restricted, from}
use Rattle.qsm.specs.model.Own.{peek_own}
use Rattle.qsm.specs.model.Word.{peek}
use Rattle.qsm.specs.model.Lanes as lanes
use Rattle.qsm.specs.model.Decision.{shaped, fits, barred, admitted, decide_read, stored_by, decide_stored}
use Rattle.qsm.specs.model.Event.{answer_of, refused, reads, writes, step}
use Rattle.qsm.specs.model.Event as event
use Rattle.qsm.specs.declared.state.Module.{Module}
use Rattle.qsm.specs.declared.map.Place.{Place}
use Rattle.qsm.specs.declared.event.Stepped.{Stepped}
use Rattle.qsm.proofs.Words.{word_read}
use Rattle.qsm.proofs.Ranges.{by_words, decode_word, ram_word}
use Rattle.claims_registers.specs.Users.{does, SUPV, touches, User, Users}
use Rattle.claims_registers.specs.Users as users

supv : (m : Module) → SUPV m ≡ bit 7 m.qsmcr
unfolding decode peek peek_own
supv m = ap (bit 7) (word_read m 0x00 refl refl)

-- Of a choice.
of_cond : (b : Bool) (x y : Place) → restricted x ≡ false → restricted y ≡ false → restricted (cond b x y) ≡ false
of_cond true x y h k = h
of_cond false x y h k = k

ram_free : (w : ℕ) → restricted (ram_word w) ≡ false
ram_free w =
    of_cond (from 128 143 w) _ _ refl (of_cond (from 144 159 w) _ _ refl (of_cond (from 160 167 w) _ _ refl refl))

others : (w : ℕ) → (w ≡ 0 → ⊥) → (w ≡ 2 → ⊥) → restricted (decode_word w) ≡ false
others w a b =
    rw (ne_eqb w 0 a, ne_eqb w 2 b)
    (of_cond (eqb w 4) _ _ refl (of_cond (eqb w 5) _ _ refl (of_cond (eqb w 6) _ _ refl (of_cond (eqb w 7) _ _ refl
    (of_cond (eqb w 10) _ _ refl (of_cond (eqb w 11) _ _ refl (of_cond (eqb w 12) _ _ refl (of_cond (eqb w 13) _ _ refl
    (of_cond (eqb w 14) _ _ refl (of_cond (eqb w 15) _ _ refl (ram_free w)))))))))))

-- A byte of QSMCR, QILR or QIVR is restricted, and no other.
or_four : (a b c d : Bool) → a || b || c || d ≡ false → (a ≡ false) × (b ≡ false) × (c ≡ false) × (d ≡ false)
or_four true b c d h = absurd (true≢false h)
or_four false true c d h = absurd (true≢false h)
or_four false false true d h = absurd (true≢false h)
or_four false false false d h = (refl, refl, refl, h)

free : (b : ℕ) → users.restricted b ≡ false → restricted (decode b) ≡ false
free b h =
    let parts = or_four (eqb b 0) (eqb b 1) (eqb b 4) (eqb b 5) h in
    let no0 : b ≡ 0 → ⊥ = eqb-false b 0 parts.0 in
    let no1 : b ≡ 1 → ⊥ = eqb-false b 1 parts.1 in
    let no4 : b ≡ 4 → ⊥ = eqb-false b 4 parts.2 in
    let no5 : b ≡ 5 → ⊥ = eqb-false b 5 parts.3 in
    ap restricted (by_words b) ∙ others (b / 2) (λ e. omega (arith, no0, no1)) (λ e. omega (arith, no4, no5))

or_by : (a b : Bool) (A : Type 0) → a || b ≡ true → (a ≡ true → A) → (b ≡ true → A) → A
or_by true b A h f g = f refl
or_by false b A h f g = g h

barred_byte : (b : ℕ) → users.restricted b ≡ true → restricted (decode b) ≡ true
unfolding decode
barred_byte b h =
    or_by (eqb b 0 || eqb b 1 || eqb b 4) (eqb b 5) (restricted (decode b) ≡ true) h
    (λ k.
    or_by (eqb b 0 || eqb b 1) (eqb b 4) (restricted (decode b) ≡ true) k
    (λ l. or_by (eqb b 0) (eqb b 1) (restricted (decode b) ≡ true) l (λ e. at (eqb-true b 0 e) refl) (λ e. at (eqb-true b 1 e) refl))
    (λ e. at (eqb-true b 4 e) refl))
    (λ e. at (eqb-true b 5 e) refl)
  where
    at : {k : ℕ} → b ≡ k → restricted (decode k) ≡ true → restricted (decode b) ≡ true
    at e t = ap (λ x. restricted (decode x)) e ∙ t

or_false : (a b : Bool) → a || b ≡ false → (a ≡ false) × (b ≡ false)
or_false true b h = absurd (true≢false h)
or_false false b h = (refl, h)

-- Without such a byte a word, or two, are free.
module _ (w o : ℕ) (h : touches w o ≡ false) where
  long_free : (t : Bool) → eqb w 4 ≡ t → eqb w 4 && restricted (decode (o + 2)) ≡ false
  long_free true e =
      let wide : leb 4 w ≡ true = le-leb 4 w (omega (arith, eqb-true w 4 e)) in
      let later : leb 4 w && (users.restricted (o + 2) || users.restricted (o + 3)) ≡ false =
      (or_false (users.restricted o || leb 2 w && users.restricted (o + 1)) _ h).1 in
      rw e (free (o + 2) (or_false (users.restricted (o + 2)) (users.restricted (o + 3)) (rw wide at later)).0)
  long_free false e = rw e

  all_free : lanes.is_restricted w o ≡ false
  unfolding lanes.is_restricted
  all_free =
      rw (free o (or_false (users.restricted o) (leb 2 w && users.restricted (o + 1)) (or_false (users.restricted o || leb 2 w && users.restricted (o + 1)) _ h).0).0)
      (long_free (eqb w 4) refl)

-- Barred, and not.
is_barred : (m : Module) (w o : ℕ) → SUPV m || users.restricted o ≡ true → barred m false w o ≡ true
unfolding lanes.is_restricted
is_barred m w o h =
    or_by (SUPV m) (users.restricted o) (barred m false w o ≡ true) h (λ e. rw (sym (supv m) ∙ e))
    (λ e. rw (barred_byte o e) (or_true (bit 7 m.qsmcr)))
  where
    or_true : (b : Bool) → b || true ≡ true
    or_true true = refl
    or_true false = refl

is_free : (m : Module) (w o : ℕ) → SUPV m ≡ false → touches w o ≡ false → barred m false w o ≡ false
is_free m w o off none = rw (sym (supv m) ∙ off, all_free w o none)

-- A user's that is barred beside a supervisor's.
abbrev Stopped : Module → Stepped → Stepped → Type 0
Stopped m u s =
    (u.state ≡ m) × (u.answer.value ≡ 0)
    × (u.answer.refusal ≡ cond (leb s.answer.refusal 2) s.answer.refusal 0)

module _ (m : Module) (w o : ℕ) where
  read_stopped : (fit mapped : Bool) → shaped w o ≡ fit → lanes.in_map w o ≡ mapped → barred m false w o ≡ true →
      Stopped m (does m false false w o 0) (does m true false w o 0)
  unfolding step answer_of event.does reads refused decide_read admitted
  read_stopped false mapped s p b = (rw s, rw s, rw s)
  read_stopped true false s p b = (rw (s, p), rw (s, p), rw (s, p))
  read_stopped true true s p b = (rw (s, p, b), rw (s, p, b), rw (s, p, b))

  module _ (v : ℕ) where
    write_stopped : (fit mapped un gu : Bool) → shaped w o && fits w v ≡ fit → lanes.in_map w o ≡ mapped →
        (stored_by m w o v).unmodelled ≡ un → (stored_by m w o v).guarded ≡ gu → barred m false w o ≡ true →
        Stopped m (does m false true w o v) (does m true true w o v)
    unfolding step answer_of event.does writes refused decide_stored admitted
    write_stopped false mapped un gu s p x y b = (rw s, rw s, rw s)
    write_stopped true false un gu s p x y b = (rw (s, p), rw (s, p), rw (s, p))
    write_stopped true true true gu s p x y b = (rw (s, p, b), rw (s, p, b), rw (s, p, b, x))
    write_stopped true true false true s p x y b = (rw (s, p, b), rw (s, p, b), rw (s, p, b, x, y))
    write_stopped true true false false s p x y b = (rw (s, p, b), rw (s, p, b), rw (s, p, b, x, y))

stopped : (m : Module) (write : Bool) (w o v : ℕ) → SUPV m || users.restricted o ≡ true →
    Stopped m (does m false write w o v) (does m true write w o v)
stopped m true w o v h = write_stopped m w o v _ _ _ _ refl refl refl refl (is_barred m w o h)
stopped m false w o v h = read_stopped m w o _ _ refl refl (is_barred m w o h)

alike : (m : Module) (write : Bool) (w o v : ℕ) → barred m false w o ≡ false → does m false write w o v ≡ does m true write w o v
unfolding step event.does reads writes decide_read decide_stored admitted
alike m true w o v h = rw h
alike m false w o v h = rw h

pub users_are : Users
users_are m write w o v =
    record {
      same = λ off none. alike m write w o v (is_free m w o off none);
      state = λ h. (stopped m write w o v h).0;
      shows = λ h. (stopped m write w o v h).1;
      refusal = λ h. (stopped m write w o v h).2;
    }
