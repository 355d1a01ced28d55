-- What a read touches of several bytes is what it touches of each.
use mathlib.Core.Path.{◌≡◌, refl, ap, sym, ◌∙◌}
use mathlib.Core.Bool.{Bool, true, false, ◌||◌, false≢true}
use Prim.Native.Nat.{ℕ, ◌+◌, ◌<◌}
use native.Mathlib.Omega.{arith}
use borrow.Author.Tests.{ltb-true, ltb-false, lt-ltb}
use lib.Dec.{ltb}
use Rattle.sci.specs.claims.Line.{read}
use Rattle.qsm.specs.model.Lanes.{touches}
use Rattle.claims_histories.specs.Demand3.{ReadsAlike}
use Rattle.claims_histories.proofs.Follows.{and_left, and_right, and_true}

both_ways : (a b : Bool) → (a ≡ true → b ≡ true) → (b ≡ true → a ≡ true) → a ≡ b
both_ways true b f g = sym (f refl)
both_ways false true f g = g refl
both_ways false false f g = refl

or_left : (a b : Bool) → a ≡ true → a || b ≡ true
or_left true b e = refl
or_left false b e = absurd (false≢true e)

or_right : (a b : Bool) → b ≡ true → a || b ≡ true
or_right true b e = refl
or_right false b e = e

or_elim : {P : Type 0} (a b : Bool) → a || b ≡ true → (a ≡ true → P) → (b ≡ true → P) → P
or_elim true b e f g = f refl
or_elim false b e f g = g e

module _ (k n width offset : ℕ) (h : 0 < width) where
  some_byte : (c : Bool) → ltb offset (k + 1) ≡ c → touches k (1 + n) width offset ≡ true →
      touches k 1 width offset || touches (k + 1) n width offset ≡ true
  some_byte true e t =
      or_left (touches k 1 width offset) (touches (k + 1) n width offset)
      (and_true (ltb offset (k + 1)) (ltb k (offset + width)) e
      (and_right (ltb offset (k + (1 + n))) (ltb k (offset + width)) t))
  some_byte false e t =
      or_right (touches k 1 width offset) (touches (k + 1) n width offset)
      (and_true (ltb offset (k + 1 + n)) (ltb (k + 1) (offset + width))
      (lt-ltb offset (k + 1 + n)
      (omega (arith, ltb-true offset (k + (1 + n)) (and_left (ltb offset (k + (1 + n))) (ltb k (offset + width)) t))))
      (lt-ltb (k + 1) (offset + width) (omega (arith, h, ltb-false offset (k + 1) e))))

  first_byte : touches k 1 width offset ≡ true → touches k (1 + n) width offset ≡ true
  first_byte t =
      and_true (ltb offset (k + (1 + n))) (ltb k (offset + width))
      (lt-ltb offset (k + (1 + n))
      (omega (arith, ltb-true offset (k + 1) (and_left (ltb offset (k + 1)) (ltb k (offset + width)) t))))
      (and_right (ltb offset (k + 1)) (ltb k (offset + width)) t)

  later_bytes : touches (k + 1) n width offset ≡ true → touches k (1 + n) width offset ≡ true
  later_bytes t =
      and_true (ltb offset (k + (1 + n))) (ltb k (offset + width))
      (lt-ltb offset (k + (1 + n))
      (omega (arith, ltb-true offset (k + 1 + n) (and_left (ltb offset (k + 1 + n)) (ltb (k + 1) (offset + width)) t))))
      (lt-ltb k (offset + width)
      (omega (arith, ltb-true (k + 1) (offset + width) (and_right (ltb offset (k + 1 + n)) (ltb (k + 1) (offset + width)) t))))

  each_byte : touches k (1 + n) width offset ≡ touches k 1 width offset || touches (k + 1) n width offset
  each_byte =
      both_ways (touches k (1 + n) width offset) (touches k 1 width offset || touches (k + 1) n width offset)
      (some_byte (ltb offset (k + 1)) refl)
      (λ e. or_elim (touches k 1 width offset) (touches (k + 1) n width offset) e first_byte later_bytes)

abbrev T : ℕ → ℕ → ℕ → Bool
T k width offset = touches k 1 width offset

two_bytes : (width offset : ℕ) → 0 < width → touches 0x0C 2 width offset ≡ T 0x0C width offset || T 0x0D width offset
two_bytes width offset h = each_byte 0x0C 1 width offset h

four_bytes : (width offset : ℕ) → 0 < width →
    touches 0x0C 4 width offset
    ≡ T 0x0C width offset || (T 0x0D width offset || (T 0x0E width offset || T 0x0F width offset))
four_bytes width offset h =
    each_byte 0x0C 3 width offset h
    ∙ ap (λ (b : Bool). T 0x0C width offset || b)
    (each_byte 0x0D 2 width offset h ∙ ap (λ (b : Bool). T 0x0D width offset || b) (each_byte 0x0E 1 width offset h))

pub reads_alike_holds : ReadsAlike
reads_alike_holds width offset width' offset' h h' c d e f =
    let two : touches 0x0C 2 width offset ≡ touches 0x0C 2 width' offset' =
    two_bytes width offset h ∙ ap (λ (b : Bool). b || T 0x0D width offset) c ∙ ap (λ (b : Bool). T 0x0C width' offset' || b) d
    ∙ sym (two_bytes width' offset' h') in (
      four_bytes width offset h
          ∙ ap (λ (b : Bool). b || (T 0x0D width offset || (T 0x0E width offset || T 0x0F width offset))) c
          ∙ ap (λ (b : Bool). T 0x0C width' offset' || (b || (T 0x0E width offset || T 0x0F width offset))) d
          ∙ ap (λ (b : Bool). T 0x0C width' offset' || (T 0x0D width' offset' || (b || T 0x0F width offset))) e
          ∙ ap (λ (b : Bool). T 0x0C width' offset' || (T 0x0D width' offset' || (T 0x0E width' offset' || b))) f
          ∙ sym (four_bytes width' offset' h'),
      ap (λ (b : Bool). read b (T 0x0F width offset)) two ∙ ap (λ (b : Bool). read (touches 0x0C 2 width' offset') b) f,
    )
