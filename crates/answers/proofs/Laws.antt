-- The fields of an answer cover its bytes, in order and without overlap. Assumes nothing.
use mathlib.Core.Path.{◌≡◌, refl}
use mathlib.Core.Bool.{Bool, true, false, cond}
use Prim.Native.Nat.{ℕ, ◌^◌, ◌<◌}
use native.Mathlib.Omega.{arith}
use lib.Dec.{eqb, ltb}
use lib.ListN.{take}
use borrow.Author.Tests.{eqb-true, eqb-false, ltb-true, ltb-false, lt-ltb, le-ltb, eq-eqb, ne_eqb}
use Rattle.answers.specs.Answer.{clocked, fields, stride}
use Rattle.answers.specs.Field.{place_of, start_of, field_at, field_number}
use Rattle.answers.specs.Claims.{Within, Covering, Apart, Strides, Claims}
use Rattle.answers.specs.declared.Field.{Field}
use Rattle.answers.specs.declared.Field.TheVariants.{Kind, Refusal, Value, Levels, Mask, Level, Vector, Clock}

module _ (i : ℕ) (inside : i < 18) where
  -- Either case of a test, of what it shows.
  either : (b : Bool) (x y : Field) → (b ≡ true → Within x i) → (b ≡ false → Within y i) → Within (cond b x y) i
  either true x y h k = h refl
  either false x y h k = k refl

  place : (n : ℕ) (x y : Field) → (i ≡ n → Within x i) → ((i ≡ n → ⊥) → Within y i) → Within (cond (eqb i n) x y) i
  place n x y h k = either (eqb i n) x y (λ e. h (eqb-true i n e)) (λ e. k (eqb-false i n e))

  covers : Within (field_at i) i
  covers =
      place 0 Kind _ (λ e. record { from = omega arith; to = omega arith }) (λ n0.
      place 1 Refusal _ (λ e. record { from = omega arith; to = omega arith }) (λ n1.
      either (ltb i 6) Value _ (λ e. let small = ltb-true i 6 e in record { from = omega arith; to = omega arith }) (λ e.
      let large = ltb-false i 6 e in
      place 6 Levels _ (λ e. record { from = omega arith; to = omega arith }) (λ n6.
      place 7 Mask _ (λ e. record { from = omega arith; to = omega arith }) (λ n7.
      place 8 Level _ (λ e. record { from = omega arith; to = omega arith }) (λ n8.
      place 9 Vector Clock (λ e. record { from = omega arith; to = omega arith }) (λ n9.
      record { from = omega arith; to = omega arith })))))))

covering : Covering
covering i h = covers i h

apart : Apart
apart Kind i w = rw (eq-eqb i 0 (omega (arith, w.to)))
apart Refusal i w = rw (ne_eqb i 0 (λ e. omega (arith, w.from)), eq-eqb i 1 (omega (arith, w.from, w.to)))
apart Value i w = rw (ne_eqb i 0 (λ e. omega (arith, w.from)), ne_eqb i 1 (λ e. omega (arith, w.from)), lt-ltb i 6 (omega (arith, w.to)))
apart Levels i w = rw (ne_eqb i 0 (λ e. omega (arith, w.from)), ne_eqb i 1 (λ e. omega (arith, w.from)), le-ltb i 6 (omega (arith, w.from)), eq-eqb i 6 (omega (arith, w.from, w.to)))
apart Mask i w = rw (ne_eqb i 0 (λ e. omega (arith, w.from)), ne_eqb i 1 (λ e. omega (arith, w.from)), le-ltb i 6 (omega (arith, w.from)), ne_eqb i 6 (λ e. omega (arith, w.from)), eq-eqb i 7 (omega (arith, w.from, w.to)))
apart Level i w = rw (ne_eqb i 0 (λ e. omega (arith, w.from)), ne_eqb i 1 (λ e. omega (arith, w.from)), le-ltb i 6 (omega (arith, w.from)), ne_eqb i 6 (λ e. omega (arith, w.from)), ne_eqb i 7 (λ e. omega (arith, w.from)), eq-eqb i 8 (omega (arith, w.from, w.to)))
apart Vector i w = rw (ne_eqb i 0 (λ e. omega (arith, w.from)), ne_eqb i 1 (λ e. omega (arith, w.from)), le-ltb i 6 (omega (arith, w.from)), ne_eqb i 6 (λ e. omega (arith, w.from)), ne_eqb i 7 (λ e. omega (arith, w.from)), ne_eqb i 8 (λ e. omega (arith, w.from)), eq-eqb i 9 (omega (arith, w.from, w.to)))
apart Clock i w = rw (ne_eqb i 0 (λ e. omega (arith, w.from)), ne_eqb i 1 (λ e. omega (arith, w.from)), le-ltb i 6 (omega (arith, w.from)), ne_eqb i 6 (λ e. omega (arith, w.from)), ne_eqb i 7 (λ e. omega (arith, w.from)), ne_eqb i 8 (λ e. omega (arith, w.from)), ne_eqb i 9 (λ e. omega (arith, w.from)))

starts : (f : Field) → start_of f ≡ stride (take (place_of f) fields)
starts Kind = refl
starts Refusal = refl
starts Value = refl
starts Levels = refl
starts Mask = refl
starts Level = refl
starts Vector = refl
starts Clock = refl

numbers : (f : Field) → field_number f ≡ 2 ^ place_of f
numbers Kind = refl
numbers Refusal = refl
numbers Value = refl
numbers Levels = refl
numbers Mask = refl
numbers Level = refl
numbers Vector = refl
numbers Clock = refl

by_each_kind : (t : Bool) → stride (take (cond t 8 7) fields) ≡ cond t 18 10
by_each_kind true = refl
by_each_kind false = refl

pub strides : Strides
strides kind = by_each_kind (eqb kind clocked)

pub laws : Claims
laws =
    record {
      covering = covering;
      apart = apart;
      in_order = record { sizes = refl; starts = starts; numbers = numbers };
      strides = strides;
      long = λ refusal value levels mask level vector clock. refl;
    }
