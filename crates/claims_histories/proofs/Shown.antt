-- Byte 0D in the answer to any permitted read that touches it is SCSR's low byte.
use mathlib.Core.Path.{◌≡◌, refl, ap, sym, subst, ◌∙◌}
use mathlib.Core.Bool.{Bool, true, false, cond, ◌&&◌, ◌||◌, false≢true}
use mathlib.Core.List.{[], ◌∷◌}
use Prim.Native.Nat.{ℕ, ◌+◌, ◌*◌, ◌/◌, ◌%◌, ◌<◌}
use native.Mathlib.Omega.{arith}
use borrow.Author.Tests.{eqb-true, ltb-true, ltb-false, lt-ltb}
use lib.Bits.{bit_and}
use lib.Dec.{eqb, ltb}
use Rattle.steps.specs.Iterate.{iterate}
use Rattle.sci.specs.model.Flags.{flag}
use Rattle.sci.specs.claims.Line.{shown, no_flag}
use Rattle.sci.specs.model.Serial.{sccr1_word}
use Rattle.sci.specs.claims.History.{reads}
use Rattle.sci.proofs.History.{shown_byte}
use Rattle.qsm.specs.model.Map.{decode}
use Rattle.qsm.specs.model.Lanes.{touches, in_map}
use Rattle.qsm.specs.model.Serial.{peek_serial}
use Rattle.qsm.specs.model.Word.{peek}
use Rattle.qsm.specs.model.Access.{fetch, fetched}
use Rattle.qsm.specs.model.Decision.{permits, shaped, barred, admitted, decide_read}
use Rattle.qsm.specs.model.Event.{done, answer_of, refused, after_read, read_value, does, step}
use Rattle.qsm.specs.model.Event as events
use Rattle.qsm.specs.declared.state.Module.{Module}
use Rattle.qsm.specs.declared.event.Done.{Done}
use Rattle.qsm.specs.declared.event.Access.TheVariants.{Read}
use Rattle.qsm.specs.declared.event.Event.TheVariants as event
use Rattle.claims_histories.specs.Demand3.{byte_at, ShowsNone}
use Rattle.claims_histories.proofs.Tested.{gate_shaped}
use Rattle.claims_histories.proofs.Follows.{steps, and_left, and_right, and_true}

abbrev status_bits : Module → ℕ
status_bits m = m.sci.status.flags.bits

abbrev Low : Module → ℕ → ℕ → Type 0
Low m width offset = byte_at 0x0D width offset (read_value m width offset) ≡ status_bits m % 256

low_lane : (b : ℕ) → (0 + b % 512) % 256 / 1 % 256 ≡ b % 256
low_lane b = omega arith

low_word : (b : ℕ) → (0 + b % 512) / 1 % 256 ≡ b % 256
low_word b = omega arith

low_second : (x b : ℕ) → (x % 65536 * 65536 + b % 512) / 1 % 256 ≡ b % 256
low_second x b = omega arith

low_first : (b d : ℕ) → ((0 + b % 512) % 65536 * 65536 + d % 512) / 65536 % 256 ≡ b % 256
low_first b d = omega arith

-- The byte at 0D; the word at 0C; the longs at 0A and 0C.
byte_0D : (m : Module) → Low m 1 13
unfolding read_value fetched fetch iterate decode peek peek_serial
byte_0D m = low_lane (status_bits m)

word_0C : (m : Module) → Low m 2 12
unfolding read_value fetched fetch iterate decode peek peek_serial
word_0C m = low_word (status_bits m)

long_0A : (m : Module) → Low m 4 10
unfolding read_value fetched fetch iterate decode peek peek_serial
long_0A m = low_second (0 + sccr1_word m.sci) (status_bits m)

long_0C : (m : Module) → Low m 4 12
unfolding read_value fetched fetch iterate decode peek peek_serial
long_0C m = low_first (status_bits m) m.sci.receiver.scdr

low_at : (m : Module) (width offset w o : ℕ) → width ≡ w → offset ≡ o → Low m w o → Low m width offset
low_at m width offset w o e f h =
    subst (λ (x : ℕ). Low m x offset) (sym e) (subst (λ (x : ℕ). Low m w x) (sym f) h)

long_low : (b : Bool) (m : Module) (width offset : ℕ) → ltb offset 11 ≡ b → width ≡ 4 → offset % 2 ≡ 0 → offset < 14 →
    13 < offset + width → Low m width offset
long_low true m width offset e w p h k =
    low_at m width offset 4 10 w (omega (arith, ltb-true offset 11 e, w, p, h, k)) (long_0A m)
long_low false m width offset e w p h k =
    low_at m width offset 4 12 w (omega (arith, ltb-false offset 11 e, w, p, h, k)) (long_0C m)

low_cases : (a b c d : Bool) (m : Module) (width offset : ℕ) → eqb width 1 ≡ a → eqb width 2 ≡ b → eqb width 4 ≡ c →
    eqb (offset % 2) 0 ≡ d → a || ((b || c) && d) ≡ true → offset < 14 → 13 < offset + width → Low m width offset
low_cases true b c d m width offset ea eb ec ed s h k =
    low_at m width offset 1 13 (eqb-true width 1 ea) (omega (arith, eqb-true width 1 ea, h, k)) (byte_0D m)
low_cases false true c true m width offset ea eb ec ed s h k =
    low_at m width offset 2 12 (eqb-true width 2 eb) (omega (arith, eqb-true width 2 eb, eqb-true (offset % 2) 0 ed, h, k))
    (word_0C m)
low_cases false false true true m width offset ea eb ec ed s h k =
    long_low (ltb offset 11) m width offset refl (eqb-true width 4 ec) (eqb-true (offset % 2) 0 ed) h k
low_cases false true c false m width offset ea eb ec ed s h k = absurd (false≢true s)
low_cases false false true false m width offset ea eb ec ed s h k = absurd (false≢true s)
low_cases false false false d m width offset ea eb ec ed s h k = absurd (false≢true s)

value_of : (b : Bool) (x : Module) (v : ℕ) (r : Done) → b ≡ true → (cond b (done x 0 v) r).value ≡ v
value_of true x v r e = refl
value_of false x v r e = absurd (false≢true e)

pub answered : (m : Module) (supervisor : Bool) (width offset : ℕ) → permits (decide_read m supervisor width offset) ≡ true →
    (step m (event.Access (Read supervisor width offset))).answer.value ≡ read_value m width offset
unfolding step answer_of does events.reads
answered m supervisor width offset e =
    value_of (permits (decide_read m supervisor width offset)) (after_read m width offset) (read_value m width offset)
    (refused (decide_read m supervisor width offset) m) e

pub permitted_shaped : (m : Module) (supervisor : Bool) (width offset : ℕ) → permits (decide_read m supervisor width offset) ≡ true →
    shaped width offset ≡ true
unfolding decide_read admitted
permitted_shaped m supervisor width offset e = gate_shaped (shaped width offset) (in_map width offset) (barred m supervisor width offset) e

pub shows_none : (m : Module) (supervisor : Bool) (width offset : ℕ) → ShowsNone m supervisor width offset →
    shown m.sci.status ≡ no_flag
shows_none m supervisor width offset h =
    let low : Low m width offset =
    low_cases (eqb width 1) (eqb width 2) (eqb width 4) (eqb (offset % 2) 0) m width offset refl refl refl refl
    (permitted_shaped m supervisor width offset h.permitted)
    (ltb-true offset 14 (and_left (ltb offset 14) (ltb 13 (offset + width)) h.touching))
    (ltb-true 13 (offset + width) (and_right (ltb offset 14) (ltb 13 (offset + width)) h.touching)) in
    sym (shown_byte m.sci.status) ∙ ap (λ (x : ℕ). flag (bit_and x 95)) (sym low)
    ∙ ap (λ (v : ℕ). flag (bit_and (byte_at 0x0D width offset v) 95)) (sym (answered m supervisor width offset h.permitted))
    ∙ h.none

-- The word at 0C shows what the status is.
pub word_shows : (m : Module) (supervisor : Bool) → permits (decide_read m supervisor 2 12) ≡ true →
    shown m.sci.status ≡ no_flag → ShowsNone m supervisor 2 12
word_shows m supervisor e h =
    record {
      permitted = e;
      touching = refl;
      none =
          ap (λ (v : ℕ). flag (bit_and (byte_at 0x0D 2 12 v) 95)) (answered m supervisor 2 12 e)
          ∙ ap (λ (x : ℕ). flag (bit_and x 95)) (word_0C m) ∙ shown_byte m.sci.status ∙ h;
    }

-- It reaches the receiver as a status read.
one_read : (b t scsr scdr : Bool) → b ≡ true → t ≡ true → scsr ≡ true →
    cond (b && t) (reads scsr scdr ∷ []) [] ≡ reads true scdr ∷ []
one_read b t scsr scdr e f g = rw (e, f, g) refl

pub status_steps : (m : Module) (supervisor : Bool) (width offset : ℕ) → ShowsNone m supervisor width offset →
    steps (event.Access (Read supervisor width offset)) m ≡ reads true (touches 0x0F 1 width offset) ∷ []
status_steps m supervisor width offset h =
    let below : offset < 14 = ltb-true offset 14 (and_left (ltb offset 14) (ltb 13 (offset + width)) h.touching) in
    let above : 13 < offset + width =
    ltb-true 13 (offset + width) (and_right (ltb offset 14) (ltb 13 (offset + width)) h.touching) in
    one_read (permits (decide_read m supervisor width offset)) (touches 0x0C 4 width offset) (touches 0x0C 2 width offset)
    (touches 0x0F 1 width offset) h.permitted
    (and_true (ltb offset 16) (ltb 12 (offset + width)) (lt-ltb offset 16 (omega (arith, below)))
    (lt-ltb 12 (offset + width) (omega (arith, above))))
    (and_true (ltb offset 14) (ltb 12 (offset + width)) (lt-ltb offset 14 below)
    (lt-ltb 12 (offset + width) (omega (arith, above))))
