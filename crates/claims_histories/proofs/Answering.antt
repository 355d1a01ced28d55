-- Demand 3: a fresh word is what the answer of its read shows.
use mathlib.Core.Path.{◌≡◌, refl, ap, sym, subst, ◌∙◌}
use mathlib.Core.Bool.{Bool, true, false, cond, not, ◌&&◌, ◌||◌, false≢true}
use mathlib.Core.List.{[], ◌∷◌}
use mathlib.Core.Option.{some}
use Prim.Native.Nat.{ℕ, ◌+◌, ◌*◌, ◌/◌, ◌%◌, ◌<◌}
use native.Mathlib.Omega.{arith}
use borrow.Author.Tests.{eqb-true, ltb-true, ltb-false}
use lib.Dec.{eqb, ltb}
use Rattle.steps.specs.Iterate.{iterate}
use Rattle.sci.specs.model.Flags.{RDRF}
use Rattle.sci.specs.model.Status.{has, mark_seen}
use Rattle.sci.specs.claims.Line.{fresh_if}
use Rattle.sci.specs.claims.History.{reads}
use Rattle.sci.specs.claims.History as sci
use Rattle.sci.specs.declared.serial.Sci.{Sci}
use Rattle.sci.proofs.Flagged.{has_flag, set_markSeen}
use Rattle.qsm.specs.model.Map.{decode}
use Rattle.qsm.specs.model.Lanes.{touches}
use Rattle.qsm.specs.model.Serial.{peek_serial}
use Rattle.qsm.specs.model.Word.{peek}
use Rattle.qsm.specs.model.Access.{fetch, fetched}
use Rattle.qsm.specs.model.Decision.{permits, decide_read}
use Rattle.qsm.specs.model.Event.{read_value, step}
use Rattle.qsm.specs.declared.state.Module.{Module}
use Rattle.qsm.specs.declared.event.Access.TheVariants.{Read}
use Rattle.qsm.specs.declared.event.Event.{Event}
use Rattle.qsm.specs.declared.event.Event.TheVariants as event
use Rattle.claims_histories.specs.History.{after, receiver_read}
use Rattle.claims_histories.specs.Demand3.{byte_at, FreshAnswered}
use Rattle.claims_histories.proofs.Follows.{follows, and_left, and_right}
use Rattle.claims_histories.proofs.Shown.{answered, permitted_shaped}

abbrev scdr : Module → ℕ
scdr m = m.sci.receiver.scdr

-- What the value of a read shows of SCDR's nine bits, if it touches byte 0F.
abbrev Shows : Module → ℕ → ℕ → Type 0
Shows m width offset =
    (byte_at 0x0F width offset (read_value m width offset) ≡ scdr m % 512 % 256)
    × (touches 0x0E 1 width offset ≡ true → byte_at 0x0E width offset (read_value m width offset) ≡ scdr m % 512 / 256)

low_lane : (d : ℕ) → (0 + d % 512) % 256 / 1 % 256 ≡ d % 512 % 256
low_lane d = omega arith

low_word : (d : ℕ) → (0 + d % 512) / 1 % 256 ≡ d % 512 % 256
low_word d = omega arith

high_word : (d : ℕ) → (0 + d % 512) / 256 % 256 ≡ d % 512 / 256
high_word d = omega arith

low_second : (x d : ℕ) → (x % 65536 * 65536 + d % 512) / 1 % 256 ≡ d % 512 % 256
low_second x d = omega arith

high_second : (x d : ℕ) → (x % 65536 * 65536 + d % 512) / 256 % 256 ≡ d % 512 / 256
high_second x d = omega arith

low_first : (d : ℕ) → ((0 + d % 512) % 65536 * 65536 + 0) / 65536 % 256 ≡ d % 512 % 256
low_first d = omega arith

high_first : (d : ℕ) → ((0 + d % 512) % 65536 * 65536 + 0) / 16777216 % 256 ≡ d % 512 / 256
high_first d = omega arith

-- The byte at 0F; the word at 0E; the long at 0C. (A long at 0E would touch a hole.)
byte_0F : (m : Module) → Shows m 1 15
unfolding read_value fetched fetch iterate decode peek peek_serial
byte_0F m = (low_lane (scdr m), λ h. absurd (false≢true h))

word_0E : (m : Module) → Shows m 2 14
unfolding read_value fetched fetch iterate decode peek peek_serial
word_0E m = (low_word (scdr m), λ h. high_word (scdr m))

long_0C : (m : Module) → Shows m 4 12
unfolding read_value fetched fetch iterate decode peek peek_serial
long_0C m = (low_second (0 + m.sci.status.flags.bits % 512) (scdr m), λ h. high_second (0 + m.sci.status.flags.bits % 512) (scdr m))

long_0E : (m : Module) → Shows m 4 14
unfolding read_value fetched fetch iterate decode peek peek_serial
long_0E m = (low_first (scdr m), λ h. high_first (scdr m))

shows_at : (m : Module) (width offset w o : ℕ) → width ≡ w → offset ≡ o → Shows m w o → Shows m width offset
shows_at m width offset w o e f h =
    subst (λ (x : ℕ). Shows m x offset) (sym e) (subst (λ (x : ℕ). Shows m w x) (sym f) h)

long_shows : (b : Bool) (m : Module) (width offset : ℕ) → ltb offset 13 ≡ b → width ≡ 4 → offset % 2 ≡ 0 → offset < 16 →
    15 < offset + width → Shows m width offset
long_shows true m width offset e w p h k =
    shows_at m width offset 4 12 w (omega (arith, ltb-true offset 13 e, w, p, h, k)) (long_0C m)
long_shows false m width offset e w p h k =
    shows_at m width offset 4 14 w (omega (arith, ltb-false offset 13 e, w, p, h, k)) (long_0E m)

shows_cases : (a b c d : Bool) (m : Module) (width offset : ℕ) → eqb width 1 ≡ a → eqb width 2 ≡ b → eqb width 4 ≡ c →
    eqb (offset % 2) 0 ≡ d → a || ((b || c) && d) ≡ true → offset < 16 → 15 < offset + width → Shows m width offset
shows_cases true b c d m width offset ea eb ec ed s h k =
    shows_at m width offset 1 15 (eqb-true width 1 ea) (omega (arith, eqb-true width 1 ea, h, k)) (byte_0F m)
shows_cases false true c true m width offset ea eb ec ed s h k =
    shows_at m width offset 2 14 (eqb-true width 2 eb) (omega (arith, eqb-true width 2 eb, eqb-true (offset % 2) 0 ed, h, k)) (word_0E m)
shows_cases false false true true m width offset ea eb ec ed s h k =
    long_shows (ltb offset 13) m width offset refl (eqb-true width 4 ec) (eqb-true (offset % 2) 0 ed) h k
shows_cases false true c false m width offset ea eb ec ed s h k = absurd (false≢true s)
shows_cases false false true false m width offset ea eb ec ed s h k = absurd (false≢true s)
shows_cases false false false d m width offset ea eb ec ed s h k = absurd (false≢true s)

-- RDRF falls only where the read reaches the receiver and touches SCDR's low byte.
abbrev falls : Sci → Sci → Bool
falls s t = has s.status RDRF && not (has t.status RDRF)

stays : (b : Bool) → b && not b ≡ true → ⊥
stays true h = false≢true h
stays false h = false≢true h

looks : (scsr : Bool) (s : Sci) → has (sci.run (reads scsr false ∷ []) s).status RDRF ≡ has s.status RDRF
unfolding sci.run sci.step
looks true s = has_flag 6 (mark_seen s.status) ∙ set_markSeen 6 s.status ∙ sym (has_flag 6 s.status)
looks false s = refl

falls_by : (b scsr low : Bool) (s t : Sci) → t ≡ sci.run (cond b (reads scsr low ∷ []) []) s → falls s t ≡ true → (b ≡ true) × (low ≡ true)
unfolding sci.run
falls_by false scsr low s t e h =
    absurd (stays (has s.status RDRF) (subst (λ (t : Sci). falls s t ≡ true) e h))
falls_by true scsr true s t e h = (refl, refl)
falls_by true scsr false s t e h =
    absurd
    (stays (has s.status RDRF)
    (ap (λ (b : Bool). has s.status RDRF && not b) (sym (looks scsr s)) ∙ subst (λ (t : Sci). falls s t ≡ true) e h))

fresh_is : (b : Bool) (d word : ℕ) → fresh_if b d ≡ some word → (b ≡ true) × (word ≡ d % 512)
fresh_is true d word h = (refl, cc)
fresh_is false d word h = let clash : false ≡ true = cc in absurd (false≢true clash)

pub fresh_answered : FreshAnswered
fresh_answered m supervisor width offset word h =
    let e : Event = event.Access (Read supervisor width offset) in
    let f = fresh_is (falls m.sci (after e m).sci) (scdr m) word h in
    let g =
    falls_by (receiver_read m supervisor width offset) (touches 0x0C 2 width offset) (touches 0x0F 1 width offset) m.sci (after e m).sci
    (follows e m) f.0 in
    let permitted : permits (decide_read m supervisor width offset) ≡ true =
    and_left (permits (decide_read m supervisor width offset)) (touches 0x0C 4 width offset) g.0 in
    let shows : Shows m width offset =
    shows_cases (eqb width 1) (eqb width 2) (eqb width 4) (eqb (offset % 2) 0) m width offset refl refl refl refl
    (permitted_shaped m supervisor width offset permitted)
    (ltb-true offset 16 (and_left (ltb offset 16) (ltb 15 (offset + width)) g.1))
    (ltb-true 15 (offset + width) (and_right (ltb offset 16) (ltb 15 (offset + width)) g.1)) in
    let value : (step m e).answer.value ≡ read_value m width offset = answered m supervisor width offset permitted in
    (g.0, g.1, omega (arith, f.1), rw (value, f.1) shows.0, λ t. rw (value, f.1) (shows.1 t))
