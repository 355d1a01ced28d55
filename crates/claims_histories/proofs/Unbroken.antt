-- An event that is neither a reset nor a counted write breaks nothing.
use mathlib.Core.Path.{◌≡◌, refl, ap, sym, ◌∙◌}
use mathlib.Core.Bool.{Bool, true, false, cond, not, ◌&&◌, ◌||◌, true≢false, false≢true}
use mathlib.Core.List.{List, [], ◌∷◌}
use Prim.Native.Nat.{ℕ, zero, suc, ◌+◌, ◌*◌, ◌/◌, ◌%◌, ◌<◌}
use native.Mathlib.Omega.{arith}
use borrow.Author.Tests.{eqb-true, lt-ltb}
use lib.Dec.{eqb, ltb}
use Rattle.sci.specs.claims.History.{Step, reads}
use Rattle.sci.specs.claims.History as sci
use Rattle.sci.specs.declared.serial.Sci.{Sci}
use Rattle.sci.proofs.History.{clocks_unbroken, unbroken_append}
use Rattle.qsm.specs.model.Map.{decode, mapped}
use Rattle.qsm.specs.model.Lanes.{upper_lane, lower_lane, lined, touches, in_map}
use Rattle.qsm.specs.model.Access.{next}
use Rattle.qsm.specs.model.Decision.{permits, admitted, shaped, fits, barred, decide_stored, decide_write, stored_by}
use Rattle.qsm.specs.declared.state.Module.{Module}
use Rattle.qsm.specs.declared.event.Access.TheVariants.{Read, Write}
use Rattle.qsm.specs.declared.event.Event.{Event}
use Rattle.qsm.specs.declared.event.Event.TheVariants.{Reset, Hold}
use Rattle.qsm.specs.declared.event.Event.TheVariants as event
use Rattle.claims_histories.specs.History.{receiver_read, played_clocks, breaks}
use Rattle.claims_histories.proofs.Words.{word_steps, store_steps, is_sccr0, is_sccr1, placed, word_unbroken}
use Rattle.claims_histories.proofs.Tested.{tested_admitted, gate_shaped, gate_mapped}
use Rattle.claims_histories.proofs.Follows.{write_steps, steps, refuted, and_left, and_right, and_true}

shaped_positive : (width offset : ℕ) → shaped width offset ≡ true → 0 < width
shaped_positive zero offset e = absurd (false≢true e)
shaped_positive (suc width) offset e = omega arith

or_right : (a b : Bool) → a ≡ true → not a || b ≡ true → b ≡ true
or_right true b h e = e
or_right false b h e = absurd (false≢true h)

touched : (width offset : ℕ) → offset < 12 → 8 < offset + width → touches 0x08 4 width offset ≡ true
touched width offset h₀ h₁ =
    and_true (ltb offset 12) (ltb 8 (offset + width)) (lt-ltb offset 12 h₀) (lt-ltb 8 (offset + width) h₁)

first_apart : (width offset : ℕ) → 0 < width → touches 0x08 4 width offset ≡ false →
    (is_sccr0 (decode offset) ≡ false) × (is_sccr1 (decode offset) ≡ false)
first_apart width offset h t = (
  refuted (is_sccr0 (decode offset))
      (λ e. let w : offset / 2 ≡ 4 = (placed offset).sccr0 e in
      true≢false (sym (touched width offset (omega (arith, w)) (omega (arith, w, h))) ∙ t)),
  refuted (is_sccr1 (decode offset))
      (λ e. let w : offset / 2 ≡ 5 = (placed offset).sccr1 e in
      true≢false (sym (touched width offset (omega (arith, w)) (omega (arith, w, h))) ∙ t)),
)

second_apart : (offset : ℕ) → mapped (decode (offset + 2)) ≡ true → touches 0x08 4 4 offset ≡ false →
    (is_sccr0 (decode (next offset)) ≡ false) × (is_sccr1 (decode (next offset)) ≡ false)
second_apart offset h t =
    let inside : offset + 2 < 0x150 = (placed (offset + 2)).inside h in (
      refuted (is_sccr0 (decode (next offset)))
          (λ e. let w : (offset + 2) % 65536 / 2 ≡ 4 = (placed (next offset)).sccr0 e in
          true≢false (sym (touched 4 offset (omega (arith, w, inside)) (omega (arith, w, inside))) ∙ t)),
      refuted (is_sccr1 (decode (next offset)))
          (λ e. let w : (offset + 2) % 65536 / 2 ≡ 5 = (placed (next offset)).sccr1 e in
          true≢false (sym (touched 4 offset (omega (arith, w, inside)) (omega (arith, w, inside))) ∙ t)),
    )

store_unbroken : (long : Bool) (width offset words : ℕ) (upper lower : Bool) (s : Sci) → eqb width 4 ≡ long →
    0 < width → in_map width offset ≡ true → touches 0x08 4 width offset ≡ false →
    sci.Unbroken (store_steps long offset words upper lower) s
unfolding in_map
store_unbroken false width offset words upper lower s l h k t =
    let a = first_apart width offset h t in
    word_unbroken (decode offset) (words / 65536) upper lower s a.0 a.1
store_unbroken true width offset words upper lower s l h k t =
    let a = first_apart width offset h t in
    let b = second_apart offset
    (or_right (eqb width 4) (mapped (decode (offset + 2))) l (and_right (mapped (decode offset)) _ k))
    (ap (λ (w : ℕ). touches 0x08 4 w offset) (sym (eqb-true width 4 l)) ∙ t) in
    let es : List Step = word_steps (decode offset) (words / 65536) upper lower in
    let v : ℕ = words % 65536 * 65536 / 65536 in
    unbroken_append es (word_steps (decode (next offset)) v upper lower) s
    (word_unbroken (decode offset) (words / 65536) upper lower s a.0 a.1)
    (word_unbroken (decode (next offset)) v upper lower (sci.run es s) b.0 b.1)

write_unbroken : (m : Module) (supervisor : Bool) (width offset value : ℕ) →
    permits (decide_write m supervisor width offset value) ≡ true → touches 0x08 4 width offset ≡ false →
    sci.Unbroken (write_steps width offset value) m.sci
unfolding decide_write decide_stored admitted
write_unbroken m supervisor width offset value e t =
    let d : permits (admitted m (shaped width offset && fits width value) supervisor width offset) ≡ true =
    tested_admitted (admitted m (shaped width offset && fits width value) supervisor width offset)
    (stored_by m width offset value).unmodelled (stored_by m width offset value).guarded e in
    let fit : Bool = shaped width offset && fits width value in
    let map : Bool = in_map width offset in
    let bar : Bool = barred m supervisor width offset in
    store_unbroken (eqb width 4) width offset (lined width value) (upper_lane width offset) (lower_lane width offset) m.sci refl
    (shaped_positive width offset (and_left (shaped width offset) _ (gate_shaped fit map bar d))) (gate_mapped fit map bar d) t

cond_unbroken : (b t : Bool) (es : List Step) (s : Sci) → b && t ≡ false → (b ≡ true → t ≡ false → sci.Unbroken es s) →
    sci.Unbroken (cond b es []) s
cond_unbroken true t es s e f = f refl e
cond_unbroken false t es s e f = tt

pub read_unbroken : (b scsr scdr : Bool) (s : Sci) → sci.Unbroken (cond b (reads scsr scdr ∷ []) []) s
read_unbroken true scsr scdr s = (refl, tt)
read_unbroken false scsr scdr s = tt

pub event_unbroken : (e : Event) (m : Module) → breaks e m ≡ false → sci.Unbroken (steps e m) m.sci
event_unbroken Reset m h = absurd (true≢false h)
event_unbroken (Hold pins rxd n) m h = clocks_unbroken (played_clocks m n) rxd m.sci
event_unbroken (event.Access (Read supervisor width offset)) m h =
    read_unbroken (receiver_read m supervisor width offset) (touches 0x0C 2 width offset) (touches 0x0F 1 width offset) m.sci
event_unbroken (event.Access (Write supervisor width offset value)) m h =
    cond_unbroken (permits (decide_write m supervisor width offset value)) (touches 0x08 4 width offset)
    (write_steps width offset value) m.sci h (write_unbroken m supervisor width offset value)
