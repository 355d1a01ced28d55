-- The place of a name among slices is that among their bytes. Assumes nothing.
use mathlib.Core.Path.{◌≡◌, refl}
use mathlib.Core.Bool.{Bool, cond}
use mathlib.Core.List.{List, map, ◌∷◌}
use Prim.Native.Nat.{◌+◌}
use native.Mathlib.Omega.{arith}
use lib.ListN.{length-map}
use Rattle.std.specs.List.{position, position_or_len}
use Rattle.std.proofs.lemmas.List.Recursion.{is_position_or_len}

module _ {X Y : Type 0} (p : Y → Bool) (f : X → Y) where
  step : (x : X) (xs : List X) → position_or_len p (map f (x ∷ xs)) ≡ cond (p (f x)) 0 (1 + position_or_len p (map f xs))
  step x xs = grind arith

  counted : (xs : List X) → position_or_len p (map f xs) ≡ position_or_len (λ x. p (f x)) xs
  counted = is_position_or_len (λ xs. position_or_len p (map f xs)) (λ x. p (f x)) refl step

  pub placed : (xs : List X) → position p (map f xs) ≡ position (λ x. p (f x)) xs
  placed xs = grind (arith, counted xs, length-map xs f)
