-- What an adjustment says of the framer and the sample. Assumes nothing.
use mathlib.Core.Path.{◌≡◌, refl}
use mathlib.Core.Bool.{Bool, true, false, not, ◌&&◌, ◌||◌, false≢true}
use Prim.Native.Nat.{ℕ, ◌<◌}
use native.Mathlib.Omega.{arith}
use lib.Dec.{ltb}
use borrow.Author.Tests.{ltb-true, not-true}
use Rattle.sci.specs.model.Framer.{after_one, near_next, near_this, early_fall, late_fall, adjusts}
use Rattle.sci.specs.declared.framer.Framer.{Framer}
use Rattle.sci.proofs.Membership.{and_left, and_right}

-- An adjustment comes with a zero, in a data bit.
pub record Adjusting (f : Framer) (x : Bool) : Type 0 where
  pub zero : x ≡ false
  pub framing : f.framing ≡ true
  pub starting : f.starting ≡ false
  pub data_bit_holds : 0 < f.left

early_data : (f : Framer) → early_fall f ≡ true → 0 < f.left
early_data f e = omega (arith, ltb-true 1 f.left (and_right (near_next f) (ltb 1 f.left) e))

late_data : (f : Framer) → late_fall f ≡ true → 0 < f.left
late_data f e =
    ltb-true 0 f.left (and_right (near_this f) (ltb 0 f.left) (and_left (near_this f && ltb 0 f.left) (not f.moved) e))

pub adjusting : (n : ℕ) (f : Framer) (three x : Bool) → adjusts n f three x ≡ true → Adjusting f x
adjusting n f three x e =
    let b : Bool = not x && three && f.framing in
    let a : Bool = b && not f.starting && after_one n f in
    let u : b && not f.starting ≡ true = and_left (b && not f.starting) (after_one n f) (and_left a (early_fall f || late_fall f) e) in
    let v : b ≡ true = and_left b (not f.starting) u in
    record {
      zero = not-true x (and_left (not x) three (and_left (not x && three) f.framing v));
      framing = and_right (not x && three) f.framing v;
      starting = not-true f.starting (and_right b (not f.starting) u);
      data_bit_holds = either (early_fall f) (late_fall f) (and_right a (early_fall f || late_fall f) e) (early_data f) (late_data f);
    }
  where
    either : (a b : Bool) → a || b ≡ true → (a ≡ true → 0 < f.left) → (b ≡ true → 0 < f.left) → 0 < f.left
    either true b e g h = g refl
    either false true e g h = h refl
    either false false e g h = absurd (false≢true e)
